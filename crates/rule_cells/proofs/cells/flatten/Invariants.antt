use Rattle.std.proofs.Common.{ℕ, List}
use Rattle.auto_table.specs.declared.rule.Rule.{Rule}
use Rattle.post_star.specs.Works.{AreTold}
use Rattle.rule_cells.specs.Forests.{AreFlat, IsForest}
use Rattle.rule_cells.proofs.cells.flatten.Given as goal

abbrev pub invariant-loop-node : goal.invariant-loop-node
invariant-loop-node g l =
    (rules : List (Rule g.row.W.Denot)) (kept : List ℕ) (root : ℕ → ℕ) → AreTold g.W.Weight.domain rules → IsForest g.W.Weight.domain rules kept root l.fn.cells
    → IsForest g.W.Weight.domain rules kept root l.cells × AreFlat g.W.Weight.domain l.node l.cells
