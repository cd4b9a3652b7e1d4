use Rattle.std.proofs.Common.{◌<◌, ◌↔◌, subst}
use Rattle.std.proofs.lemmas.List.{take_all}
use Rattle.std.proofs.lemmas.List.Elements.{All-append, All-nil}
use Rattle.class_order.specs.declared.spans.Span.{Span}
use Rattle.class_order.specs.Spans.{Holds, HoldsAny}
use Rattle.class_order.proofs.Reached.{gathered_none, gathered_more}
use Rattle.class_order.proofs.reach.gathered.Goals as goal

pub loop-class-init : goal.loop-class-init
loop-class-init c = rw c.new-all.ensures.items (record {
  filled = All-nil (λ (s : Span). s.start < s.end);
  places = gathered_none c.args.table.now;
})

pub loop-class-preserved : goal.loop-class-preserved
loop-class-preserved c = rw (c.in_ok-extend_from_slice.ensures.items, c.get.ensures) (record {
  filled = All-append (λ (s : Span). s.start < s.end) _ _ c.loop-class.invariant.filled (c.requires.apart _).filled;
  places = gathered_more c.args.table.now c.args.classes.now c.loop-class.all.items c.loop-class.class-index 0 c.loop-class-test.true c.loop-class.invariant.places;
})

pub returns-clause-places : goal.returns-clause-places
returns-clause-places c =
    let whole = take_all c.loop-class.class-index c.args.classes.now c.loop-class-test.false in
    λ p. subst (λ xs. Holds c.loop-class.all.items p ↔ HoldsAny c.args.table.now xs p) whole (c.loop-class.invariant.places p)
