use Rattle.std.proofs.Common.{◌≡◌, ℕ, Some, length, slice_get}
use Rattle.rule_cells.specs.declared.entered.Entered.{Entered}
use Rattle.rule_cells.specs.declared.entered.Entered.TheVariants.{Never}
use Rattle.rule_cells.proofs.entered.none_entered.Given as goal

abbrev pub invariant-loop : goal.invariant-loop
invariant-loop g l = record {
  many : length l.entries.items ≡ l.counter;
  never : (n : ℕ) (e : Entered g.row.W.Denot) → slice_get l.entries.items n ≡ Some e → e ≡ Never;
}
