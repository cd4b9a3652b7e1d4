use Rattle.std.proofs.Common.{get_or, arith}
use Rattle.std.proofs.lemmas.List.Elements.{Contains-get_or}
use Rattle.std.proofs.lemmas.Option.{slice_get-get_or}
use Rattle.class_order.specs.Tables.{Under}
use Rattle.class_order.proofs.Reached.{reaching_more, reaching_all}
use Rattle.class_order.proofs.reach.reach_spans.Goals as goal

pub get-requires : goal.get-requires
get-requires c = c.requires.order.settled.within _ (Contains-get_or c.args.order.now c.loop-class.class-index 0 c.loop-class-test.true)

pub gathered-requires-clause-known : goal.gathered-requires-clause-known
gathered-requires-clause-known c = λ k d h.
    let u : Under c.args.below.now (get_or c.get.result.now k d) (get_or c.args.order.now c.loop-class.class-index 0) = rw (← c.get.ensures) (Contains-get_or c.get.result.now k d h) in
    omega (arith, c.requires.known _ _ u, c.loop-class.invariant.len)

pub bounds-places-class : goal.bounds-places-class
bounds-places-class c = omega (arith, c.requires.order.settled.within (get_or c.args.order.now c.loop-class.class-index 0) (Contains-get_or c.args.order.now c.loop-class.class-index 0 c.loop-class-test.true), c.requires.places.len)

pub put-requires : goal.put-requires
put-requires c = omega (arith, c.requires.order.settled.within (get_or c.args.order.now c.loop-class.class-index 0) (Contains-get_or c.args.order.now c.loop-class.class-index 0 c.loop-class-test.true), c.loop-class.invariant.len)

pub loop-class-preserved : goal.loop-class-preserved
loop-class-preserved c = rw c.put.ensures (reaching_more c.args.below.now c.args.order.now c.args.places.now c.requires.order c.requires.places c.loop-class.class-index _
    (slice_get-get_or c.args.order.now c.loop-class.class-index 0 c.loop-class-test.true) c.loop-class.table c.loop-class.invariant c.in_ok-spans.spans.items c.in_ok-united.field-0.items
    (λ q. rw c.get.ensures at (c.in_ok-spans.ensures.places q)) c.in_ok-united.ensures.apart (λ q. rw c.in_ok-push.ensures.items at (c.in_ok-united.ensures.same q)))

pub returns : goal.returns
returns c = reaching_all _ _ _ c.loop-class.class-index _ c.requires.order c.loop-class-test.false c.loop-class.invariant
