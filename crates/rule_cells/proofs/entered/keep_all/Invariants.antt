use Rattle.std.proofs.Common.{ℕ, [], take}
use Rattle.rule_cells.specs.Entered.{AreEntered}
use Rattle.rule_cells.proofs.entered.keep_all.Given as goal

abbrev pub invariant-loop-i : goal.invariant-loop-i
invariant-loop-i g l = (count : ℕ) → AreEntered {W = g.row.W.Denot} count [] [] l.fn.entries → AreEntered {W = g.row.W.Denot} count [] (take l.i l.kept) l.entries
