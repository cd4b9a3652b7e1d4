use Rattle.std.proofs.Common.{sym, subst}
use Rattle.std.proofs.lemmas.List.{take_all}
use Rattle.class_order.specs.Spans.{Holds}
use Rattle.class_order.proofs.Spanned.{joined_start, joined_more, joined_next}
use Rattle.class_order.proofs.spans.joined.Goals as goal
use Rattle.class_order.proofs.spans.joined.Goals.{then-span-last, else-span-last+in_ok-push}

pub loop-span-init : goal.loop-span-init
loop-span-init c = rw c.new-joined.ensures.items (joined_start _ c.requires.filled c.requires.sorted _ (sym c.in-Some.ensures.value))

pub loop-span-preserved : goal.loop-span-preserved
loop-span-preserved c = elim c.if-span-last.branch [
  | then-span-last w ↦ rw (w.joined-is, w.last-is, w.max.ensures) (joined_more _ c.requires.filled c.requires.sorted c.loop-span.span-index _ c.loop-span-test.true _ _ c.loop-span.invariant w.if-span-last.true)
  | else-span-last+in_ok-push w ↦ rw (w.joined-is, w.last-is, w.in_ok-push.ensures.items) (joined_next _ c.requires.filled c.requires.sorted c.loop-span.span-index _ c.loop-span-test.true _ _ c.loop-span.invariant w.if-span-last.false)
]

pub returns-clause-apart : goal.returns-clause-apart
returns-clause-apart c = rw c.in_ok-push-2.ensures.items c.loop-span.invariant.apart

pub returns-clause-same : goal.returns-clause-same
returns-clause-same c =
    let whole = take_all c.loop-span.span-index c.args.sorted.now c.loop-span-test.false in
    λ p. (
      λ h. c.loop-span.invariant.from p (rw c.in_ok-push-2.ensures.items at h),
      λ h. rw c.in_ok-push-2.ensures.items (c.loop-span.invariant.held p (subst (λ xs. Holds xs p) (sym whole) h)),
    )
