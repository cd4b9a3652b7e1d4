use Rattle.std.proofs.Common.{subst, sym, ◌∙◌}
use Rattle.class_order.specs.declared.spans.Span.{Span}
use Rattle.object_ranges.specs.Chosen.{AreLeasts}
use Rattle.object_ranges.proofs.Leasted.{leasts_all, leasts_more}
use Rattle.object_ranges.proofs.chosen.leasts_in.Goals as goal

pub loop-span-preserved : goal.loop-span-preserved
loop-span-preserved c =
    let at = c.loop-span in
    let d : Span = record { start = 0; end = 0 } in
    rw c.in_ok-push.ensures.items (leasts_more c.args.objects.now c.args.spans.now at.span-index d c.least.result at.leasts.items c.loop-span-test.true c.least.ensures at.invariant)

pub returns : goal.returns
returns c =
    let at = c.loop-span in
    let all = leasts_all c.args.objects.now c.args.spans.now at.span-index at.leasts.items c.loop-span-test.false at.invariant in
    subst (AreLeasts c.args.objects.now c.args.spans.now) (sym (c.in_ok-minima.ensures ∙ c.as_slice.ensures.value)) all
