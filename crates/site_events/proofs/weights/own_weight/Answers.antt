use Rattle.std.proofs.Common.{sym, ap, subst, ◌∙◌}
use Rattle.track_systems.specs.Values.{IsWeight}
use Rattle.track_systems.specs.Weights.{Owns}
use Rattle.weight_laws.specs.declared.rel.Rel.{Rel}
use Rattle.weight_laws.specs.Rel.{rel_domain}
use Rattle.site_events.proofs.Changing.{owns_never, owns_other, owns_receiver}
use Rattle.site_events.proofs.weights.own_weight.Goals as goal

pub returns-then-is_receiver : goal.returns-then-is_receiver
returns-then-is_receiver c k q a events =
    let p = c.args.linked.now in
    let goes = c.in-Some.ensures.some p k q a events in
    owns_receiver p k q a c.args.call c.args.variable goes.0 (c.is_receiver.ensures.0 c.if-is_receiver.true) goes.1

pub returns-else-is_receiver : goal.returns-else-is_receiver
returns-else-is_receiver c k q a events =
    let p = c.args.linked.now in
    let goes = c.in-Some.ensures.some p k q a events in
    subst (λ (w : Rel). IsWeight w (Owns p k q a c.args.call c.args.variable))
    (sym (c.combine.ensures ∙ ap (λ (r : Rel). rel_domain.combine c.in-Some.event r) c.one.ensures))
    (owns_other p k q a c.args.call c.args.variable goes.0 (λ is. let holds = c.is_receiver.ensures.1 is in cc (holds, c.if-is_receiver.false)) goes.1)

pub returns-in-None : goal.returns-in-None
returns-in-None c k q a events =
    let p = c.args.linked.now in
    subst (λ (w : Rel). IsWeight w (Owns p k q a c.args.call c.args.variable)) (sym c.one-in-None.ensures)
    (owns_never p k q a c.args.call c.args.variable (c.in-None.ensures.none p k q a events))
