use Rattle.demo_text.specs.Demo.{declarations_of}
use Rattle.demo_text.proofs.Each.{each_next}
use Rattle.demo_text.proofs.push_all_declarations.Goals as goal

pub loop-number-preserved : goal.loop-number-preserved
loop-number-preserved c = each_next declarations_of c.loop-number.number _ _ _ c.loop-number.invariant c.in_ok-push_declarations.ensures
