use Rattle.std.proofs.Common.{◌≡◌, ◌↔◌, ◌∙◌, IsTrue, refl, rules}
use Rattle.std.proofs.lemmas.Option.{same_Some}
use Rattle.site_events.proofs.receiving.has_other_receiver.Goals as goal

pub returns-in-Some : goal.returns-in-Some
returns-in-Some c =
    let apart : IsTrue c.ne.result ↔ (c.args.variable ≡ c.in-Some.receiver → ⊥) = search rules in (
      λ h. (c.in-Some.receiver, (c.in-Some.ensures c.in-Some.receiver).0 refl, apart.0 h),
      λ has. apart.1 (λ same. has.2 (same ∙ same_Some _ _ ((c.in-Some.ensures has.0).1 has.1))),
    )

pub returns-in-None : goal.returns-in-None
returns-in-None c = (λ h. absurd (cc (h)), λ has. let none = (c.in-None.ensures has.0).1 has.1 in absurd (cc (none)))
