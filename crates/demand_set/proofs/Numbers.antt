-- The numbers of the keys of a set.
use Rattle.std.proofs.Common.{◌≡◌, ◌∙◌, ℕ, ◌↔◌, Bool, true, false, List, slice_get, Some, None, sym, ap}
use Rattle.std.specs.List.{list_any, position}
use Rattle.std.specs.Option.{is_some}
use Rattle.std.specs.declared.option.Option.{Option}
use Rattle.std.proofs.lemmas.List.Quantifiers.{position-Some}
use Rattle.std.proofs.lemmas.Option.{slice_get-get_or}
use Rattle.lists.specs.Lists.{Has, IsApart}
use Rattle.lists.proofs.Keys.{not-list_any}

module _ {X : Type 0} (eq : X → X → Bool) (same : (x y : X) → eq x y ≡ true → x ≡ y) (self : (x : X) → eq x x ≡ true) where
  -- the first key that is equal to k is k
  slice_get-position : (ks : List X) (k : X) (i : ℕ) → position (eq k) ks ≡ Some i → slice_get ks i ≡ Some k
  slice_get-position ks k i h =
      let found = position-Some (eq k) ks i k h in
      slice_get-get_or ks i k found.0 ∙ ap Some (sym (same k _ found.1))

  -- the index that is found is the one at which the key stands
  pub index-exact : (ks : List X) (k : X) (r : Option ℕ) → IsApart ks → r ≡ position (eq k) ks → is_some r ≡ list_any (eq k) ks
      → (i : ℕ) → (r ≡ Some i) ↔ (slice_get ks i ≡ Some k)
  index-exact ks k None apart at found i = ((λ h. cc), λ h. absurd (not-list_any eq same self ks k i (sym found) h))
  index-exact ks k (Some j) apart at found i = (
    λ h. slice_get-position ks k i (sym at ∙ h),
    λ h. ap Some (apart j i k (slice_get-position ks k j (sym at)) h),
  )

  -- no index is found where the key doesn't stand
  pub index-none : (ks : List X) (k : X) → false ≡ list_any (eq k) ks → Has ks k → ⊥
  index-none ks k found has = not-list_any eq same self ks k has.0 (sym found) has.1
