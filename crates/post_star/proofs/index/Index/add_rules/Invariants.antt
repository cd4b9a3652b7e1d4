use Rattle.std.proofs.Common.{List, take}
use Rattle.post_star.specs.declared.bases.BaseStep.{BaseStep}
use Rattle.post_star.specs.Index.{IsIndex}
use Rattle.post_star.proofs.index.Index.add_rules.Given as goal

abbrev pub invariant-loop-i : goal.invariant-loop-i
invariant-loop-i g l = (steps : List BaseStep) → IsIndex (take l.taken l.rules) steps l.fn.self → IsIndex (take l.i l.rules) steps l.self
