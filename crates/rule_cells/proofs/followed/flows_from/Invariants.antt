use Rattle.lists.specs.Lists.{Has}
use Rattle.rule_cells.specs.declared.distinct.Shape.{Shape}
use Rattle.rule_cells.specs.Distinct.{rule_of}
use Rattle.rule_cells.proofs.followed.flows_from.Given as goal

abbrev pub invariant-loop-i : goal.invariant-loop-i
invariant-loop-i g l = (s : Shape) → Has l.shapes.keys s → Has l.rules (rule_of g.W.Weight.domain s)
