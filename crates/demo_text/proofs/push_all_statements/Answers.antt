use Rattle.demo_text.specs.Demo.{statements_of}
use Rattle.demo_text.proofs.Each.{each_next}
use Rattle.demo_text.proofs.push_all_statements.Goals as goal

pub loop-number-preserved : goal.loop-number-preserved
loop-number-preserved c = each_next statements_of c.loop-number.number _ _ _ c.loop-number.invariant c.in_ok-push_statements.ensures
