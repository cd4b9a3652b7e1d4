use Rattle.rule_cells.specs.Renamed.{HaveNumbersTo}
use Rattle.rule_cells.proofs.numbers.numbers_of.Given as goal

abbrev pub invariant-loop-node : goal.invariant-loop-node
invariant-loop-node g l = HaveNumbersTo g.W.Weight.domain l.cells l.own l.node l.numbers.items
