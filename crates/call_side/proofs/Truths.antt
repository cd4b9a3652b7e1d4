-- Truth as a weight: what isn't zero is one, and where a combination or an extension isn't zero.
use Rattle.std.proofs.Common.{◌≡◌, ◌≢◌, ◌⊎◌, Bool, true, false, refl, sym, ap, subst, ◌∙◌, inl, inr}
use Rattle.weight_laws.specs.declared.reach.Reach.{Reach}
use Rattle.weight_laws.specs.Reach.{reach_domain}
use Rattle.weight_laws.specs.ReachLaws.{reach_lawful}
use Rattle.post_star.specs.Derivations.{Combines}

abbrev truth : Bool → Reach
truth b = record { 0 = b }

abbrev pub IsSome : Reach → Type 0
IsSome x = x ≢ reach_domain.zero

pub is_one : (x : Reach) → IsSome x → x ≡ reach_domain.one
is_one x some = by x.0 refl
  where
    by : (b : Bool) → x.0 ≡ b → x ≡ reach_domain.one
    by true e = ap truth e
    by false e = absurd (some (ap truth e))

pub one_some : IsSome reach_domain.one
one_some e = let same : true ≡ false = ap (λ (x : Reach). x.0) e in cc

pub extend_some : (x y : Reach) → IsSome (reach_domain.extend x y) → IsSome x × IsSome y
extend_some x y some = (
  (λ e. some (subst (λ (z : Reach). reach_domain.extend z y ≡ reach_domain.zero) (sym e) refl)),
  (λ e. some (subst (λ (z : Reach). reach_domain.extend x z ≡ reach_domain.zero) (sym e) (reach_lawful.extend_zero x tt))),
)

pub combine_some : (x y : Reach) → IsSome (reach_domain.combine x y) → IsSome x ⊎ IsSome y
combine_some x y some = by x.0 refl
  where
    by : (b : Bool) → x.0 ≡ b → IsSome x ⊎ IsSome y
    by true e = inl (λ z. let same : true ≡ false = sym e ∙ ap (λ (w : Reach). w.0) z in cc)
    by false e = inr (λ z. some (subst (λ (w : Reach). reach_domain.combine w y ≡ reach_domain.zero) (sym (ap truth e)) z))

-- each truth lies below one
pub below_one : (x : Reach) → reach_domain.combine x reach_domain.one ≡ reach_domain.one
below_one x = by x.0 refl
  where
    by : (b : Bool) → x.0 ≡ b → reach_domain.combine x reach_domain.one ≡ reach_domain.one
    by true e = subst (λ (w : Reach). reach_domain.combine w reach_domain.one ≡ reach_domain.one) (sym (ap truth e)) refl
    by false e = subst (λ (w : Reach). reach_domain.combine w reach_domain.one ≡ reach_domain.one) (sym (ap truth e)) refl

-- a combination that isn't zero has a member that isn't
pub some_member : {kind : Reach → Type 0} {value : Reach} → Combines reach_domain kind value → IsSome value → (x : Reach) × kind x × IsSome x
some_member Combines.none some = absurd (some refl)
some_member (Combines.one {x} is) some = (x, is, some)
some_member (Combines.both {x} {y} p q) some = elim (combine_some x y some) [ inl a ↦ some_member p a | inr b ↦ some_member q b ]
