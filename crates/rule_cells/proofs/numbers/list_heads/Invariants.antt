use Rattle.rule_cells.specs.Renamed.{AreHeadsTo}
use Rattle.rule_cells.proofs.numbers.list_heads.Given as goal

abbrev pub invariant-loop-node : goal.invariant-loop-node
invariant-loop-node g l = AreHeadsTo g.W.Weight.domain l.cells l.node l.heads.items l.numbers.items
