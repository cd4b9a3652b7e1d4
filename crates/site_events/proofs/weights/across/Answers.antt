use Rattle.std.proofs.Common.{sym, subst}
use Rattle.track_systems.specs.Values.{IsWeight}
use Rattle.track_systems.specs.Weights.{Across}
use Rattle.weight_laws.specs.declared.rel.Rel.{Rel}
use Rattle.site_events.proofs.Changing.{across_weight}
use Rattle.site_events.proofs.weights.across.Goals as goal

pub returns : goal.returns
returns c k q a events =
    let p = c.args.linked.now in
    let n = c.args.node in
    subst (λ (w : Rel). IsWeight w (Across p k q a n.place n.var)) (sym c.extend.ensures)
    (across_weight p k q a n.place n.var events.sixteen (c.own_weight-own.ensures k q a events) (c.inside-inside.ensures k q a events))
