-- What is kept of a call.
use Rattle.std.proofs.Common.{◌≡◌, ℕ, ◌+◌, ◌≤◌, ◌⊎◌, ◌++◌, List, [], ◌∷◌, Option, Some, length, slice_get, sym, ap, ◌∙◌, subst, inl, inr, arith}
use Rattle.std.proofs.lemmas.Bool.{cases_order}
use Rattle.lists.proofs.Places.{slice_get-below, Has-push}
use Rattle.link_indexes.specs.declared.method.Place.{Place}
use Rattle.lists.specs.Numbers.{Numbers}
use Rattle.narrow_rules.specs.declared.kept.Kept.{Kept}
use Rattle.refined_query.specs.Keeping.{AreAdded, IsKeptAmong}
use Rattle.refined_query.specs.Selecting.{IsAmong}

module _ (place : Place) (targets : List ℕ) (found : Option (Numbers ℕ)) where
  -- one more of them is there or not
  among_split : (count target : ℕ) (k : Kept) → slice_get targets count ≡ Some target → IsKeptAmong place targets (count + 1) found k
      → IsKeptAmong place targets count found k ⊎ ((k ≡ record { place = place; target = target }) × IsAmong found target)
  among_split count target k there h = elim (cases_order h.at count) [
    | inl same ↦
        let is : k.target ≡ target = let a = h.there in cc (a, there, same) in
        inr (ap (λ (p : Place). record k { place = p }) h.stands ∙ ap (λ t. record { place = place; target = t }) is, subst (IsAmong found) is h.among)
    | inr apart ↦ elim apart [
      | inl below ↦ inl (record { at = h.at; within = below; there = h.there; stands = h.stands; among = h.among })
      | inr above ↦ (let w = h.within in absurd (omega (arith, w, above)))
    ]
  ]

  among_more : (count : ℕ) (k : Kept) → IsKeptAmong place targets count found k → IsKeptAmong place targets (count + 1) found k
  among_more count k h = let w = h.within in record { at = h.at; within = omega (arith, w); there = h.there; stands = h.stands; among = h.among }

  -- one more is kept
  pub added_one : (count target : ℕ) (first old : List Kept) → slice_get targets count ≡ Some target → IsAmong found target
      → AreAdded (IsKeptAmong place targets count found) first old
      → AreAdded (IsKeptAmong place targets (count + 1) found) first (old ++ record { place = place; target = target } ∷ [])
  added_one count target first old there among was k = (
    (λ has. elim ((Has-push old (record { place = place; target = target }) k).0 has) [
      | inl before ↦ elim ((was k).0 before) [ inl at_first ↦ inl at_first | inr h ↦ inr (among_more count k h) ]
      | inr is ↦ inr (record {
        at = count;
        within = omega arith;
        there = there ∙ ap Some (sym (ap (λ (x : Kept). x.target) is));
        stands = ap (λ (x : Kept). x.place) is;
        among = subst (IsAmong found) (sym (ap (λ (x : Kept). x.target) is)) among;
      })
    ]),
    λ either. (Has-push old (record { place = place; target = target }) k).1 (elim either [
      | inl at_first ↦ inl ((was k).1 (inl at_first))
      | inr h ↦ elim (among_split count target k there h) [ inl before ↦ inl ((was k).1 (inr before)) | inr last ↦ inr last.0 ]
    ]),
  )

  -- one more isn't
  pub added_other : (count target : ℕ) (first old : List Kept) → slice_get targets count ≡ Some target → (IsAmong found target → ⊥)
      → AreAdded (IsKeptAmong place targets count found) first old → AreAdded (IsKeptAmong place targets (count + 1) found) first old
  added_other count target first old there not_among was k = (
    (λ has. elim ((was k).0 has) [ inl at_first ↦ inl at_first | inr h ↦ inr (among_more count k h) ]),
    λ either. (was k).1 (elim either [
      | inl at_first ↦ inl at_first
      | inr h ↦ elim (among_split count target k there h) [ inl before ↦ inr before | inr last ↦ absurd (not_among last.1) ]
    ]),
  )

  -- all are looked at
  pub added_all : (count : ℕ) (first last : List Kept) → length targets ≤ count → AreAdded (IsKeptAmong place targets count found) first last
      → AreAdded (IsKeptAmong place targets (length targets) found) first last
  added_all count first last end was k = (
    (λ has. elim ((was k).0 has) [
      | inl at_first ↦ inl at_first
      | inr h ↦ inr (record { at = h.at; within = slice_get-below targets h.at k.target h.there; there = h.there; stands = h.stands; among = h.among })
    ]),
    λ either. (was k).1 (elim either [
      | inl at_first ↦ inl at_first
      | inr h ↦ (let w = h.within in inr (record { at = h.at; within = omega (arith, w, end); there = h.there; stands = h.stands; among = h.among }))
    ]),
  )
