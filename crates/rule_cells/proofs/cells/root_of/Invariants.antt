use Rattle.std.proofs.Common.{ℕ, List}
use Rattle.auto_table.specs.declared.rule.Rule.{Rule}
use Rattle.post_star.specs.Works.{AreTold}
use Rattle.rule_cells.specs.Forests.{IsForest}
use Rattle.rule_cells.proofs.Rooting.{IsOnWay}
use Rattle.rule_cells.proofs.cells.root_of.Given as goal

abbrev pub invariant-up : goal.invariant-up
invariant-up g l =
    (rules : List (Rule g.row.W.Denot)) (kept : List ℕ) (root : ℕ → ℕ) → AreTold g.W.Weight.domain rules → IsForest g.W.Weight.domain rules kept root l.fn.cells
    → IsOnWay g.W.Weight.domain rules kept root l.fn.cells l.cells l.node l.cell

abbrev pub decreases-up : goal.decreases-up
decreases-up g l = l.cell.head
