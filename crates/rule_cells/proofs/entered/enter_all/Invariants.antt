use Rattle.std.proofs.Common.{List, ℕ, [], take}
use Rattle.rule_cells.specs.Entered.{AreEntered}
use Rattle.rule_cells.proofs.entered.enter_all.Given as goal

abbrev pub invariant-loop-i : goal.invariant-loop-i
invariant-loop-i g l =
    (count : ℕ) (kept : List ℕ) → AreEntered {W = g.row.W.Denot} count [] kept l.fn.entries → AreEntered {W = g.row.W.Denot} count (take l.i l.rules) kept l.entries
