use Rattle.link_faults.specs.Sites.{HasMissingOperand}
use Rattle.link_faults.proofs.Scans.{NoneBefore}
use Rattle.link_faults.proofs.locals.has_missing_operand.Given as goal

abbrev pub invariant-loop-operand : goal.invariant-loop-operand
invariant-loop-operand l = NoneBefore (HasMissingOperand l.body.locals) l.operands l.operand-index
