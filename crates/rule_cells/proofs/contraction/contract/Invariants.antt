use Rattle.rule_cells.proofs.Contracting.{AreDone}
use Rattle.rule_cells.proofs.contraction.contract.Given as goal

abbrev pub invariant-loop-number : goal.invariant-loop-number
invariant-loop-number g l = AreDone g.W.Weight.domain l.cells l.rules l.number l.few.items l.sources.items
