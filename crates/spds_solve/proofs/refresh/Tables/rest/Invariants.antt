use Rattle.std.proofs.Common.{◌≡◌, ◌<◌, ℕ, length}
use Rattle.spds_solve.specs.Searches.{IsStill}
use Rattle.spds_solve.proofs.refresh.Tables.rest.Given as goal

abbrev pub invariant-loop-site : goal.invariant-loop-site
invariant-loop-site l = record {
  each : l.self.each ≡ l.initial.self.each;
  count : length l.self.changed.items ≡ length l.initial.self.changed.items;
  still : (k : ℕ) → k < l.site → IsStill l.self k;
}
