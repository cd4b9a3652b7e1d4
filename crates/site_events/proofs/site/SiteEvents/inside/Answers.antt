use Rattle.std.proofs.Common.{◌<◌, ◌↔◌, ℕ, List, subst, sym}
use Rattle.track_systems.specs.Weights.{Within}
use Rattle.site_events.specs.declared.inner.Inner.{Inner}
use Rattle.site_events.specs.Sites.{LeadsInside}
use Rattle.site_events.proofs.Built.{closed_sends}
use Rattle.site_events.proofs.Led.{IsLedBy, led_inside}
use Rattle.site_events.proofs.site.SiteEvents.inside.Goals as goal

pub returns : goal.returns
returns c = λ k q a are.
    let p = c.args.linked.now in
    let call = c.args.call in
    closed_sends p k q a are.sixteen (Within p call) c.inside_of.result
    (λ i j h.
    let led = c.inside_of.ensures i j h in
    let into = led_inside p call c.deref.result.now c.targets_at.result.now c.targets_at.ensures i j in
    let told = are.inside call i j h in
    let same : LeadsInside p c.deref.result.now call i j → LeadsInside p c.args.self.now.inner.items call i j = subst (λ (xs : List Inner). LeadsInside p xs call i j) c.deref.ensures.value in
    let back : LeadsInside p c.args.self.now.inner.items call i j → LeadsInside p c.deref.result.now call i j = subst (λ (xs : List Inner). LeadsInside p xs call i j) (sym c.deref.ensures.value) in
    ((λ r. told.0 (same (into.0 (led.0 r)))), (λ g. led.1 (into.1 (back (told.1 g))))))
    c.closure.result c.closure.ensures
