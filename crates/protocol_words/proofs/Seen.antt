-- Names in the order of their first appearance.
use Rattle.std.proofs.Common.{◌≡◌, ℕ, ◌≤◌, ◌⊎◌, List, [], ◌∷◌, ◌++◌, Some, length, length-append, slice_get, refl, sym, ap, subst, ◌∙◌, inl, inr, arith}
use Rattle.std.proofs.lemmas.List.{append-nil}
use Rattle.lists.specs.Lists.{Adds, Has, FirstSeen}
use Rattle.lists.proofs.Places.{Has-adds_itself, slice_get-adds, slice_get-pushed}
use Rattle.link_laws.proofs.OneList.{first_seen_one}
use Rattle.lists.specs.Lists.{none, next}

module _ {X : Type 0} where
  -- what is named is there
  pub seen_has : {uses new : List X} → FirstSeen uses new → (i : ℕ) (x : X) → slice_get uses i ≡ Some x → Has new x
  seen_has none i x h = cc
  seen_has (next {uses} {old} {new} {x} seen adds) i y h = elim (slice_get-pushed uses x i y h) [
    | inl before ↦ (let at = seen_has seen i y before in (at.0, slice_get-adds old new x adds at.0 y at.1))
    | inr last ↦ subst (Has new) (sym last.1) (Has-adds_itself old new x adds)
  ]

  no_back : (front back : List X) → [] ≡ front ++ back → (front ≡ []) × (back ≡ [])
  no_back [] back e = (refl, sym e)
  no_back (f ∷ fs) back e = cc

  -- the front of a list with a last element is all of it, or goes without that
  snoc_front : (us : List X) (x : X) (front back : List X) → us ++ x ∷ [] ≡ front ++ back → (back ≡ []) ⊎ ((rest : List X) × (us ≡ front ++ rest))
  snoc_front us x [] back e = inr (us, refl)
  snoc_front [] x (f ∷ fs) back e = let rest : [] ≡ fs ++ back = cc in inl (no_back fs back rest).1
  snoc_front (u ∷ us) x (f ∷ fs) back e =
      let first : u ≡ f = cc in
      let rest : us ++ x ∷ [] ≡ fs ++ back = cc in
      elim (snoc_front us x fs back rest) [
        | inl ended ↦ inl ended
        | inr more ↦ inr (more.0, ap (λ z. z ∷ us) first ∙ ap (λ zs. f ∷ zs) more.1)
      ]

  length-adds : (old new : List X) (x : X) → Adds old x new → length old ≤ length new
  length-adds old new x adds = elim adds [
    | inl same ↦ omega (arith, ap (length {A = X}) same.1)
    | inr more ↦ omega (arith, ap (length {A = X}) more.1, length-append old (x ∷ []))
  ]

  -- what is named in the front is no more
  seen_front : {uses new : List X} → FirstSeen uses new → (front back : List X) → uses ≡ front ++ back → (old : List X) × FirstSeen front old × (length old ≤ length new)
  seen_front none front back e = ([], subst (λ us. FirstSeen us []) (sym (no_back front back e).0) none, omega arith)
  seen_front (next {uses} {old} {new} {x} seen adds) front back e = elim (snoc_front uses x front back e) [
    | inl ended ↦ (new, subst (λ us. FirstSeen us new) (e ∙ ap (λ b. front ++ b) ended ∙ append-nil front) (next seen adds), omega arith)
    | inr more ↦ (let before = seen_front seen front more.0 more.1 in (before.0, before.1, omega (arith, before.2, length-adds old new x adds)))
  ]

  pub fewer : (front back old new : List X) → FirstSeen front old → FirstSeen (front ++ back) new → length old ≤ length new
  fewer front back old new p q =
      let before = seen_front q front back refl in
      omega (arith, before.2, ap (length {A = X}) (first_seen_one p before.0 before.1))
