use Rattle.std.proofs.Common.{sym, ap, subst, ◌∙◌}
use Rattle.track_systems.specs.Values.{IsWeight}
use Rattle.track_systems.specs.Weights.{Changes}
use Rattle.weight_laws.specs.declared.rel.Rel.{Rel}
use Rattle.weight_laws.specs.Rel.{rel_domain}
use Rattle.site_events.proofs.Changing.{elsewhere_weight, kept_weight, settled_flight_weight, settled_weight, unsettled_flight_weight, unsettled_weight}
use Rattle.site_events.proofs.weights.flow_weight.Goals.{else-is_into_flight-via-then-is_into_flight+else-has_other_receiver, else-is_into_flight-via-else-is_into_flight}
use Rattle.site_events.proofs.weights.flow_weight.Goals as goal

pub returns-in-None : goal.returns-in-None
returns-in-None c k q a events =
    let p = c.args.linked.now in
    subst (λ (w : Rel). IsWeight w (Changes p k q a c.args.from c.args.to)) (sym c.one.ensures)
    (elsewhere_weight p k q a c.args.from c.args.to c.in-None.ensures.none)

pub returns-in-Some-Kept : goal.returns-in-Some-Kept
returns-in-Some-Kept c k q a events =
    let is = rw c.in-Some-Kept.field-0-is at c.in-Some-Kept.ensures.some in
    kept_weight c.args.linked.now k q a c.args.from c.args.to is.0 is.1 (c.across.ensures k q a events)

pub returns-then-has_other_receiver : goal.returns-then-has_other_receiver
returns-then-has_other_receiver c k q a events =
    let p = c.args.linked.now in
    let is = rw c.in-Some-Settled.field-0-is at c.in-Some-Settled.ensures.some in
    subst (λ (w : Rel). IsWeight w (Changes p k q a c.args.from c.args.to)) (sym c.one-then-has_other_receiver.ensures)
    (settled_flight_weight p k q a c.args.from c.args.to is.0 is.1 (c.is_into_flight.ensures.0 c.if-is_into_flight.true)
    (c.has_other_receiver.ensures.0 c.if-has_other_receiver.true))

pub returns-else-is_into_flight : goal.returns-else-is_into_flight
returns-else-is_into_flight c k q a events =
    let p = c.args.linked.now in
    let is = rw c.in-Some-Settled.field-0-is at c.in-Some-Settled.ensures.some in
    subst (λ (w : Rel). IsWeight w (Changes p k q a c.args.from c.args.to)) (sym c.zero.ensures)
    (settled_weight p k q a c.args.from c.args.to is.0 is.1 (λ flies has. elim c.else-is_into_flight.branch [
      | else-is_into_flight-via-then-is_into_flight+else-has_other_receiver w ↦
          let holds = w.has_other_receiver.ensures.1 has in cc (holds, w.if-has_other_receiver.false)
      | else-is_into_flight-via-else-is_into_flight w ↦ let holds = c.is_into_flight.ensures.1 flies in cc (holds, w.if-is_into_flight.false)
    ]))

pub returns-then-is_into_flight-2 : goal.returns-then-is_into_flight-2
returns-then-is_into_flight-2 c k q a events =
    let p = c.args.linked.now in
    let is = rw c.in-Some-Unsettled.field-0-is at c.in-Some-Unsettled.ensures.some in
    subst (λ (w : Rel). IsWeight w (Changes p k q a c.args.from c.args.to))
    (sym (c.combine.ensures ∙ ap (λ (r : Rel). rel_domain.combine c.across-over.result r) c.one-then-is_into_flight-2.ensures))
    (unsettled_flight_weight p k q a c.args.from c.args.to is.0 is.1 (c.is_into_flight-in-Some-Unsettled.ensures.0 c.if-is_into_flight-2.true)
    (c.across-over.ensures k q a events))

pub returns-else-is_into_flight-2 : goal.returns-else-is_into_flight-2
returns-else-is_into_flight-2 c k q a events =
    let is = rw c.in-Some-Unsettled.field-0-is at c.in-Some-Unsettled.ensures.some in
    unsettled_weight c.args.linked.now k q a c.args.from c.args.to is.0 is.1
    (λ flies. let holds = c.is_into_flight-in-Some-Unsettled.ensures.1 flies in cc (holds, c.if-is_into_flight-2.false)) (c.across-over.ensures k q a events)
