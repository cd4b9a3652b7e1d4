use Rattle.std.proofs.lemmas.Result.{IfOk-weaker}
use Rattle.call_side.proofs.AtNode.{IfSome-weaker, if_none_weaker}
use Rattle.call_side.proofs.Trails.{back_home, homes_backward, led_is_home}
use Rattle.call_side.proofs.indexed.IndexedBases.way.Goals as goal

pub way-requires-clause-backward : goal.way-requires-clause-backward
way-requires-clause-backward c = homes_backward c.self.inside.steps.items c.self.inside.last c.self.inside.homes.bases.keys c.self.inside.homes.origins.items c.self.invariant.homes.ways

pub returns-clause-some : goal.returns-clause-some
returns-clause-some c =
    let h = c.self.inside in
    rw (← c.self.view_is) (IfOk-weaker c.way.result _ _ (λ r. IfSome-weaker r _ _ (λ way back.
    back_home h.steps.items h.last h.homes.bases.keys h.homes.origins.items c.self.invariant.homes.ways back.2 c.args.base back.1)) c.way.ensures.some)

pub returns-clause-none : goal.returns-clause-none
returns-clause-none c =
    let h = c.self.inside in
    rw (← c.self.view_is) (IfOk-weaker c.way.result _ _ (λ r. if_none_weaker r (λ absent word leads.
    absent (led_is_home h.steps.items h.last h.homes c.self.invariant.homes c.args.base word leads))) c.way.ensures.none)
