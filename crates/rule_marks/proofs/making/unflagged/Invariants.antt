use Rattle.std.proofs.Common.{◌≡◌, ℕ, false, get_or}
use Rattle.rule_marks.proofs.making.unflagged.Given as goal

abbrev pub invariant-loop : goal.invariant-loop
invariant-loop l = (n : ℕ) → get_or l.flags.items n false ≡ false
