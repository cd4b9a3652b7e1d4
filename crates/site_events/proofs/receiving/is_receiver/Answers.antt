use Rattle.std.proofs.Common.{◌≡◌, ◌↔◌, IsTrue, refl, sym, subst, rules}
use Rattle.std.proofs.lemmas.Option.{same_Some}
use Rattle.track_systems.specs.Events.{IsReceiver}
use Rattle.site_events.proofs.receiving.is_receiver.Goals as goal

pub returns-in-Some : goal.returns-in-Some
returns-in-Some c =
    let same : IsTrue c.eq.result ↔ (c.args.variable ≡ c.in-Some.receiver) = search rules in (
      λ h. subst (IsReceiver c.args.linked.now c.args.call) (sym (same.0 h)) ((c.in-Some.ensures c.in-Some.receiver).0 refl),
      λ is. same.1 (sym (same_Some _ _ ((c.in-Some.ensures c.args.variable).1 is))),
    )

pub returns-in-None : goal.returns-in-None
returns-in-None c = (λ h. absurd (cc (h)), λ is. let none = (c.in-None.ensures c.args.variable).1 is in absurd (cc (none)))
