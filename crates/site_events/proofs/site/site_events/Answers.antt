use Rattle.std.proofs.Common.{◌≡◌, ◌↔◌, ℕ, List, length, subst, sym, arith}
use Rattle.lists.specs.Lists.{Has}
use Rattle.lists.specs.Groups.{Grouped}
use Rattle.site_events.specs.Callers.{AreCallers}
use Rattle.site_events.specs.declared.statement.Statement.{Statement}
use Rattle.site_events.specs.Events.{MayBe}
use Rattle.site_events.proofs.Built.{built_all, built_more, built_none, may_below}
use Rattle.site_events.proofs.Used.{under_event}
use Rattle.site_events.proofs.site.site_events.Goals as goal

pub loop-event-init : goal.loop-event-init
loop-event-init c = λ p k q a statements events held. built_none p k q a c.none-found.result c.none-found.ensures.own c.none-found.ensures.inner c.none-found.ensures.anywhere

pub loop-event-preserved : goal.loop-event-preserved
loop-event-preserved c = λ p k q a statements events held.
    let event = c.loop-event.event in
    let calling = subst (λ (g : Grouped ℕ ℕ). AreCallers p g) (sym c.callers.ensures) events.callers in
    let may : (s : Statement) → Has c.at.result.now s ↔ MayBe p k q a event s = λ s. subst (λ (xs : List Statement). Has xs s ↔ MayBe p k q a event s) (sym c.at.ensures)
    (under_event p k q a statements c.args.places.now events.are_all held event s c.args.events.now.uses.items _ events.uses (c.in_ok-statements.ensures event s)) in
    built_more p k q a event c.relation.result c.at.result.now events.form
    (events.relations event c.relation.result c.relation.ensures) may
    c.loop-event.found c.add.new.self (c.loop-event.invariant p k q a statements events held)
    (c.in_ok-add.ensures p calling (λ s has. may_below p k q a event s ((may s).0 has)))

pub returns : goal.returns
returns c = λ p k q a statements events held.
    let last : c.loop-event.event ≡ length k.events = omega (arith, events.many, c.in_ok-event-end.ensures, c.loop-event-test.false, c.loop-event.auto.event-end) in
    built_all p k q a c.loop-event.event c.loop-event.found c.close.new.self events.form last (c.loop-event.invariant p k q a statements events held) c.close.ensures.own
    c.close.ensures.inner c.close.ensures.anywhere
