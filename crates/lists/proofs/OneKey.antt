-- Two keys are one, or their test tells them apart.
use Rattle.std.proofs.Common.{◌≡◌, ◌≢◌, ◌⊎◌, Bool, true, false, refl, sym, subst, ◌∙◌, inl, inr, true≢false}

pub one_key : {K : Type 0} (eq : K → K → Bool) (self : (k : K) → eq k k ≡ true) (same : (x y : K) → eq x y ≡ true → x ≡ y) (a b : K) → ((a ≡ b) × (eq a b ≡ true)) ⊎ ((a ≢ b) × (eq a b ≡ false))
one_key {K} eq self same a b = by (eq a b) refl
  where
    by : (t : Bool) → eq a b ≡ t → ((a ≡ b) × (eq a b ≡ true)) ⊎ ((a ≢ b) × (eq a b ≡ false))
    by true e = inl (same a b e, e)
    by false e = inr ((λ h. let t : eq a b ≡ true = subst (λ (z : K). eq a z ≡ true) h (self a) in true≢false (sym t ∙ e)), e)
