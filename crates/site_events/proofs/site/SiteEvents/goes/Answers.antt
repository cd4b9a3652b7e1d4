use Rattle.std.proofs.Common.{subst}
use Rattle.call_side.proofs.AtNode.{IfSome-weaker}
use Rattle.link_sites.specs.declared.place.Place.{Place}
use Rattle.track_systems.specs.Events.{Goes}
use Rattle.track_systems.specs.Values.{IsWeight}
use Rattle.track_systems.specs.Weights.{May}
use Rattle.site_events.specs.declared.statement.Statement.{Statement}
use Rattle.site_events.specs.Tables.{IsTold}
use Rattle.site_events.proofs.Used.{place_before}
use Rattle.site_events.proofs.site.SiteEvents.goes.Goals as goal

pub returns-clause-some : goal.returns-clause-some
returns-clause-some c = λ p k q a are.
    IfSome-weaker c.find.result _ _
    (λ w told.
    let at = subst (λ (s : Statement). IsTold c.args.self.now.own s w) c.statement_at.ensures told in
    subst (λ (x : Place). May p k q a x × IsWeight w (Goes p k x)) (place_before c.args.place c.if-place.false) (are.own _ w at))
    c.find.ensures.some
