use Rattle.std.proofs.Common.{◌-◌, ℕ, List, length}
use Rattle.auto_table.specs.declared.rule.Rule.{Rule}
use Rattle.post_star.specs.Works.{AreTold}
use Rattle.rule_cells.specs.Entered.{AreEntered}
use Rattle.rule_cells.specs.Forests.{AreRooted}
use Rattle.rule_cells.proofs.cells.follow_all.Given as goal

abbrev pub invariant-loop-done : goal.invariant-loop-done
invariant-loop-done g l =
    (rules : List (Rule g.row.W.Denot)) (kept : List ℕ) → AreTold g.W.Weight.domain rules → AreEntered (length l.entries) rules kept l.entries
    → AreRooted g.W.Weight.domain rules kept l.entries (length l.entries) l.fn.cells
    → AreRooted g.W.Weight.domain rules kept l.entries (length l.entries - l.done) l.cells
