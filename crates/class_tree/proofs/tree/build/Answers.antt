use Rattle.std.proofs.Common.{◌≡◌, arith, subst}
use Rattle.lists.specs.Lists.{IsLeast}
use Rattle.class_rules.specs.Rows.{IsOwnAncestor}
use Rattle.class_tree.proofs.Building.{step-below, least_map}
use Rattle.class_order.proofs.Reached.{proper_map}
use Rattle.class_order.specs.Tables.{IsOver, Under}
use Rattle.class_order.proofs.LookedAt.{depth_first_map, upper_known}
use Rattle.class_order.proofs.Searches.{bent}
use Rattle.class_tree.proofs.tree.build.Goals as goal

pub finish_order-requires-clause-below : goal.finish_order-requires-clause-below
finish_order-requires-clause-below c = λ a b u. rw c.in_ok-below.ensures.len (step-below _ _ a b c.requires.named.implements ((c.in_ok-below.ensures.steps a b).0 u))

pub steps_down-requires-clause-all : goal.steps_down-requires-clause-all
steps_down-requires-clause-all c = λ a h. rw c.as_slice.ensures.value (c.in_ok-starts.ensures.all a h)

pub finish_order-requires-clause-all : goal.finish_order-requires-clause-all
finish_order-requires-clause-all c = λ a h. rw c.as_slice-2.ensures.value (c.in_ok-starts.ensures.all a (rw c.in_ok-below.ensures.len at h))

pub least_cyclic-requires-clause-above : goal.least_cyclic-requires-clause-above
least_cyclic-requires-clause-above c = λ a b u.
    let known = upper_known c.in_ok-below.below a b ((c.in_ok-below.ensures.steps a b).1 ((c.in_ok-above.ensures.steps a b).0 u)) in
    omega (arith, known, c.in_ok-below.ensures.len, c.in_ok-above.ensures.len)

pub least_cyclic-requires-clause-order : goal.least_cyclic-requires-clause-order
least_cyclic-requires-clause-order c = rw c.as_slice-order.ensures.value (depth_first_map (Under c.in_ok-below.below) (IsOver c.in_ok-above.above) c.in_ok-finish.finish.order.items
    (λ a b u. (c.in_ok-above.ensures.steps a b).1 ((c.in_ok-below.ensures.steps a b).0 u))
    (λ a b u. (c.in_ok-below.ensures.steps a b).1 ((c.in_ok-above.ensures.steps a b).0 u)) c.in_ok-finish.ensures.depth_first)

pub least_cyclic-requires-clause-within : goal.least_cyclic-requires-clause-within
least_cyclic-requires-clause-within c = λ a m. omega (arith, c.in_ok-finish.ensures.within a (rw c.as_slice-order.ensures.value at m), c.in_ok-below.ensures.len, c.in_ok-above.ensures.len)

pub least_cyclic-requires-clause-all : goal.least_cyclic-requires-clause-all
least_cyclic-requires-clause-all c = λ a h. rw c.as_slice-order.ensures.value (c.in_ok-finish.ensures.all a (omega (arith, h, c.in_ok-below.ensures.len, c.in_ok-above.ensures.len)))

pub least_cyclic-requires-clause-some : goal.least_cyclic-requires-clause-some
least_cyclic-requires-clause-some c =
    let p = bent _ _ c.in_ok-finish.finish.straight c.if-not-finish.true c.in_ok-finish.ensures.straight in
    (p.0, proper_map (Under c.in_ok-below.below) (IsOver c.in_ok-above.above) (λ a b u. (c.in_ok-above.ensures.steps a b).1 ((c.in_ok-below.ensures.steps a b).0 u)) p.0 p.0 p.1)

pub returns-then-not-finish-clause-cyclic : goal.returns-then-not-finish-clause-cyclic
returns-then-not-finish-clause-cyclic c = λ k e.
    let same : c.in_ok-class.class ≡ k = cc in
    subst (IsLeast (IsOwnAncestor c.args.classes.now c.args.implements.now)) same (least_map _ _
    (λ a p. proper_map (IsOver c.in_ok-above.above) _ (λ x y u. (c.in_ok-above.ensures.steps x y).0 u) a a p)
    (λ a p. proper_map _ (IsOver c.in_ok-above.above) (λ x y s. (c.in_ok-above.ensures.steps x y).1 s) a a p)
    _ c.in_ok-class.ensures)
