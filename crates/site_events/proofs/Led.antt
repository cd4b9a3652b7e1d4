-- Where the events lead that some methods may enter, event by event.
use Rattle.std.proofs.Common.{◌≡◌, ◌<◌, ◌↔◌, ◌⊎◌, ℕ, List, [], ◌∷◌, ◌++◌, inl, inr, refl, sym, subst}
use Rattle.lists.specs.Lists.{Has}
use Rattle.lists.proofs.Places.{Has-push}
use Rattle.link_rules.specs.Linked.{LinkedProgram}
use Rattle.link_rules.specs.WellLinked.{HasTarget}
use Rattle.link_sites.specs.declared.place.Place.{Place}
use Rattle.weight_laws.proofs.Meaning.{meaning}
use Rattle.weight_laws.specs.declared.rel.Rel.{Rel}
use Rattle.weight_laws.specs.Rel.{Relates, rel_domain}
use Rattle.site_events.specs.declared.inner.Inner.{Inner}
use Rattle.site_events.specs.Inner.{AreEntered}
use Rattle.site_events.specs.Sites.{LeadsInside}

-- an event that one of the methods may enter leads the first state to the second
abbrev pub IsLedBy : List Inner → List ℕ → ℕ → ℕ → Type 0
IsLedBy inner methods i j = (x : Inner) × Has inner x × AreEntered methods x.loud.keys × Relates x.does i j

module _ (methods : List ℕ) (i j : ℕ) (h : i < 16) where
  pub led_none : (does : Rel) → does ≡ rel_domain.zero → Relates does i j ↔ IsLedBy [] methods i j
  led_none does zero = ((λ r. absurd (meaning.zero i j h (subst (λ (w : Rel). Relates w i j) zero r))), (λ x. let no = x.1.1 in absurd cc))

  module _ (inner : List Inner) (event : Inner) (does : Rel) (old : Relates does i j ↔ IsLedBy inner methods i j) where
    pub led_more : AreEntered methods event.loud.keys → (new : Rel) → new ≡ rel_domain.combine does event.does → Relates new i j ↔ IsLedBy (inner ++ event ∷ []) methods i j
    led_more entered new is =
        let sum = meaning.combine does event.does i j h in (
          (λ r. elim (sum.0 (subst (λ (w : Rel). Relates w i j) is r)) [
            | inl a ↦ let x = old.0 a in (x.0, (Has-push inner event x.0).1 (inl x.1), x.2, x.3)
            | inr b ↦ (event, (Has-push inner event event).1 (inr refl), entered, b)
          ]),
          (λ x. subst (λ (w : Rel). Relates w i j) (sym is) (sum.1 (elim ((Has-push inner event x.0).0 x.1) [
            | inl a ↦ inl (old.1 (x.0, a, x.2, x.3))
            | inr e ↦ inr (subst (λ (y : Inner). Relates y.does i j) e x.3)
          ]))),
        )

    pub led_skip : (AreEntered methods event.loud.keys → ⊥) → Relates does i j ↔ IsLedBy (inner ++ event ∷ []) methods i j
    led_skip not = (
      (λ r. let x = old.0 r in (x.0, (Has-push inner event x.0).1 (inl x.1), x.2, x.3)),
      (λ x. elim ((Has-push inner event x.0).0 x.1) [
        | inl a ↦ old.1 (x.0, a, x.2, x.3)
        | inr e ↦ absurd (not (subst (λ (y : Inner). AreEntered methods y.loud.keys) e x.2))
      ]),
    )

-- the methods that a call may enter at once are its targets
pub led_inside : (p : LinkedProgram) (c : Place) (inner : List Inner) (targets : List ℕ) → ((target : ℕ) → Has targets target ↔ HasTarget p c.method c.index target)
    → (i j : ℕ) → IsLedBy inner targets i j ↔ LeadsInside p inner c i j
led_inside p c inner targets are i j = (
  (λ x. let m = x.2 in (x.0, x.1, (m.0, (are m.0).0 m.1, m.2), x.3)),
  (λ x. let m = x.2 in (x.0, x.1, (m.0, (are m.0).1 m.1, m.2), x.3)),
)
