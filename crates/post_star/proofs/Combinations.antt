-- Combinations of finitely many weights.
use Rattle.std.proofs.Common.{◌≡◌, ◌⊎◌, inl, inr, refl, sym, ap, ◌∙◌, subst}
use Rattle.post_star.specs.Derivations.{Combines, none, one, both}
use Rattle.weight_laws.specs.Law.{Domain, IsLawful, Leq}
use Rattle.weight_laws.proofs.Orders.{combine_leq, zero_leq}

module _ {W : Type 0} {d : Domain W} (l : IsLawful W d) where
  pub combines_meant : {D : W → Type 0} → ((x : W) → D x → d.IsMeant x) → {v : W} → Combines d D v → d.IsMeant v
  combines_meant m none = l.zero_meant
  combines_meant m (one {x} p) = m x p
  combines_meant m (both p q) = l.combine_meant _ _ (combines_meant m p) (combines_meant m q)

  pub combines_bind : {D E : W → Type 0} → ((x : W) → D x → Combines d E x) → {v : W} → Combines d D v → Combines d E v
  combines_bind f none = none
  combines_bind f (one {x} p) = f x p
  combines_bind f (both p q) = both (combines_bind f p) (combines_bind f q)

  pub combines_leq : {D : W → Type 0} → ((x : W) → D x → d.IsMeant x) → (z : W) → d.IsMeant z → ((x : W) → D x → Leq d x z) → {v : W} → Combines d D v → Leq d v z
  combines_leq m z mz h none = zero_leq l z mz
  combines_leq m z mz h (one {x} p) = h x p
  combines_leq m z mz h (both p q) = combine_leq l _ _ z (combines_meant m p) (combines_meant m q) mz (combines_leq m z mz h p) (combines_leq m z mz h q)

  -- a kind with no weight has the sum zero
  pub combines_any : {D : W → Type 0} → {v : W} → Combines d D v → ((x : W) × D x) ⊎ (v ≡ d.zero)
  combines_any none = inr refl
  combines_any (one {x} p) = inl (x, p)
  combines_any (both {x} {y} p q) = by (combines_any p) (combines_any q)
    where
      by : {D : W → Type 0} → ((z : W) × D z) ⊎ (x ≡ d.zero) → ((z : W) × D z) ⊎ (y ≡ d.zero) → ((z : W) × D z) ⊎ (d.combine x y ≡ d.zero)
      by (inl a) b = inl a
      by (inr a) (inl b) = inl b
      by (inr a) (inr b) = inr (ap (λ (t : W). d.combine t y) a ∙ ap (d.combine d.zero) b ∙ l.combine_zero d.zero l.zero_meant)

  -- each weight is extended by one more
  pub combines_right : {D F : W → Type 0} → ((x : W) → D x → d.IsMeant x) → (w : W) → d.IsMeant w → ((x : W) → D x → F (d.extend x w)) → {v : W} → Combines d D v → Combines d F (d.extend v w)
  combines_right {D} {F} m w mw f none = subst (λ (t : W). Combines d F t) (sym (l.zero_extend w mw)) none
  combines_right m w mw f (one {x} p) = one (f x p)
  combines_right {D} {F} m w mw f (both {x} {y} p q) =
      subst (λ (t : W). Combines d F t) (sym (l.combine_extend x y w (combines_meant m p) (combines_meant m q) mw)) (both (combines_right m w mw f p) (combines_right m w mw f q))

  pub combines_left : {D F : W → Type 0} → ((x : W) → D x → d.IsMeant x) → (w : W) → d.IsMeant w → ((x : W) → D x → F (d.extend w x)) → {v : W} → Combines d D v → Combines d F (d.extend w v)
  combines_left {D} {F} m w mw f none = subst (λ (t : W). Combines d F t) (sym (l.extend_zero w mw)) none
  combines_left m w mw f (one {x} p) = one (f x p)
  combines_left {D} {F} m w mw f (both {x} {y} p q) =
      subst (λ (t : W). Combines d F t) (sym (l.extend_combine w x y mw (combines_meant m p) (combines_meant m q))) (both (combines_left m w mw f p) (combines_left m w mw f q))

  -- each weight of one kind is extended by each of another
  pub combines_product : {D E F : W → Type 0} → ((x : W) → D x → d.IsMeant x) → ((x : W) → E x → d.IsMeant x) → ((x y : W) → D x → E y → F (d.extend x y))
      → {v w : W} → Combines d D v → Combines d E w → Combines d F (d.extend v w)
  combines_product {D} {E} {F} m n f {v} {w} none q = subst (λ (t : W). Combines d F t) (sym (l.zero_extend w (combines_meant n q))) none
  combines_product m n f (one {x} p) q = combines_left n x (m x p) (λ y e. f x y p e) q
  combines_product {D} {E} {F} m n f {v} {w} (both {x} {y} p p') q =
      subst (λ (t : W). Combines d F t) (sym (l.combine_extend x y w (combines_meant m p) (combines_meant m p') (combines_meant n q))) (both (combines_product m n f p q) (combines_product m n f p' q))
