use Rattle.std.proofs.Common.{take}
use Rattle.post_star.specs.Works.{AreTold}
use Rattle.rule_cells.proofs.cells.tell_all.Given as goal

abbrev pub invariant-loop-i : goal.invariant-loop-i
invariant-loop-i g l = AreTold g.W.Weight.domain (take l.i l.rules)
