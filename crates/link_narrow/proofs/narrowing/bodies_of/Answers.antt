use Rattle.link_narrow.proofs.Filled.{bodies_more}
use Rattle.link_narrow.proofs.narrowing.bodies_of.Goals as goal

pub loop-method-preserved : goal.loop-method-preserved
loop-method-preserved c = rw c.in_ok-push.ensures.items
    (bodies_more c.args.linked.now c.args.named.now c.loop-method.method c.loop-method.bodies.items c.in_ok-body_of.field-0 c.in_ok-body_of.ensures c.loop-method.invariant)
