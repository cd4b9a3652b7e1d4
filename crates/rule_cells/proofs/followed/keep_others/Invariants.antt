use Rattle.std.proofs.Common.{ℕ, List, take}
use Rattle.auto_table.specs.declared.rule.Rule.{Rule}
use Rattle.rule_cells.specs.Followed.{AreAdded, AreSights}
use Rattle.rule_cells.specs.Made.{head_at, offset_at}
use Rattle.rule_cells.proofs.followed.keep_others.Given as goal

abbrev pub invariant-loop-i : goal.invariant-loop-i
invariant-loop-i g l = (rules : List (Rule g.row.W.Denot)) (kept : List ℕ)
    → AreSights g.W.Weight.domain rules kept l.shapes.keys (head_at g.W.Weight.domain l.cells) (offset_at g.W.Weight.domain l.cells)
    → AreAdded g.W.Weight.domain rules l.initial.few.items l.few.items (take l.i l.more)
