use Rattle.std.proofs.Common.{slice_index_or, ◌↔◌, ◌<◌, ℕ, List, subst, sym}
use Rattle.std.proofs.lemmas.List.{take_all}
use Rattle.std.proofs.lemmas.Option.{slice_get-get_or}
use Rattle.lists.proofs.Places.{take-next}
use Rattle.weight_laws.specs.Rel.{Relates, rel_domain}
use Rattle.site_events.specs.declared.inner.Inner.{Inner}
use Rattle.site_events.proofs.Led.{IsLedBy, led_more, led_none, led_skip}
use Rattle.site_events.proofs.inner.inside_of.Goals as goal
use Rattle.site_events.proofs.inner.inside_of.Goals.{then-is_among, else-is_among}

pub loop-event-init : goal.loop-event-init
loop-event-init c = λ i j h. led_none c.args.methods.now i j h c.zero-does.result c.zero-does.ensures

pub loop-event-preserved : goal.loop-event-preserved
loop-event-preserved c = λ i j h.
    let items = c.args.inner.now in
    let methods = c.args.methods.now in
    let index = c.loop-event.event-index in
    let x = slice_index_or items index c.event-item.result in
    let at = slice_get-get_or items index c.event-item.result c.loop-event-test.true in
    let old = c.loop-event.invariant i j h in
    elim c.if-is_among.branch [
      | then-is_among w ↦
          rw (take-next items index x at, w.does-is)
          (led_more methods i j h _ x c.loop-event.does old (rw (← c.event-item.is) (c.is_among.ensures.0 w.if-is_among.true)) w.combine-does.result (rw (← c.event-item.is) w.combine-does.ensures))
      | else-is_among w ↦
          rw (take-next items index x at, w.does-is)
          (led_skip methods i j h _ x c.loop-event.does old (λ yes. let holds = c.is_among.ensures.1 (rw (← c.event-item.is) at yes) in let no = w.if-is_among.false in cc))
    ]

pub returns : goal.returns
returns c = λ i j h.
    subst (λ (inner : List Inner). Relates c.loop-event.does i j ↔ IsLedBy inner c.args.methods.now i j)
    (take_all c.loop-event.event-index c.args.inner.now c.loop-event-test.false) (c.loop-event.invariant i j h)
