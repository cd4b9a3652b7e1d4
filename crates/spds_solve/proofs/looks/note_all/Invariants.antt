use Rattle.std.proofs.Common.{ℕ, ◌<◌}
use Rattle.spds_solve.specs.Known.{IsKnown}
use Rattle.spds_solve.specs.Looks.{IsNotedAt}
use Rattle.spds_solve.specs.Searches.{IsStill}
use Rattle.spds_solve.proofs.looks.note_all.Given as goal

abbrev pub invariant-loop-site : goal.invariant-loop-site
invariant-loop-site l = record {
  known : IsKnown l.view.parts.now l.mets l.known;
  noted : (k : ℕ) → k < l.site → IsNotedAt l.view l.known k;
  still : (k : ℕ) → IsStill l.view.tables.now k → IsNotedAt l.view l.known k;
}
