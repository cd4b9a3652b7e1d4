-- What is kept up to a statement.
use Rattle.std.proofs.Common.{◌≡◌, ℕ, ◌+◌, ◌<◌, ◌≤◌, ◌⊎◌, ◌↔◌, List, [], Some, length, slice_get, sym, ap, ◌∙◌, subst, inl, inr, arith}
use Rattle.std.proofs.lemmas.Bool.{cases_lt}
use Rattle.lists.proofs.Places.{slice_get-below}
use Rattle.link_indexes.specs.declared.method.Place.{Place}
use Rattle.link_rules.specs.Linked.{LinkedMethod, LinkedProgram}
use Rattle.link_rules.specs.WellLinked.{HasTarget}
use Rattle.narrow_rules.specs.declared.kept.Kept.{Kept}
use Rattle.refine_rules.specs.Refined.{AreToKeep, IsToKeep}
use Rattle.refined_query.specs.Keeping.{AreAdded, AreKeptBefore, StandsBefore}

module _ (number index : ℕ) where
  -- what stands before the next statement
  StandsBefore-next : (place : Place) → StandsBefore number (index + 1) place → StandsBefore number index place ⊎ (place ≡ record { method = number; index = index })
  StandsBefore-next place s = elim s [
    | inl earlier ↦ inl (inl earlier)
    | inr here ↦ elim (cases_lt place.index index) [
      | inl less ↦ inl (inr (here.0, less))
      | inr more ↦
          let same : place.index ≡ index = let lt : place.index < index + 1 = here.1 in omega arith in
          inr (ap (λ (m : ℕ). record { method = m; index = place.index }) here.0 ∙ ap (λ (i : ℕ). record { method = number; index = i }) same)
    ]
  ]

  StandsBefore-later : (place : Place) → StandsBefore number index place → StandsBefore number (index + 1) place
  StandsBefore-later place s = elim s [ inl earlier ↦ inl earlier | inr here ↦ inr (here.0, let lt : place.index < index = here.1 in omega arith) ]

  StandsBefore-itself : (place : Place) → place ≡ record { method = number; index = index } → StandsBefore number (index + 1) place
  StandsBefore-itself place is = inr (ap (λ (x : Place). x.method) is, let same : place.index ≡ index = ap (λ (x : Place). x.index) is in omega arith)

module _ (p : LinkedProgram) (budget : ℕ) where
  -- one more statement, which keeps those
  pub kept_more : (number index : ℕ) (Q : Kept → Type 0) (old new : List Kept) → AreAdded Q old new
      → ((k : Kept) → Q k ↔ ((k.place ≡ record { method = number; index = index }) × IsToKeep p budget number index k.target))
      → AreKeptBefore p budget number index old → AreKeptBefore p budget number (index + 1) new
  kept_more number index Q old new adds is was k = (
    (λ has. elim ((adds k).0 has) [
      | inl there ↦ (let h = (was k).0 there in (StandsBefore-later number index k.place h.0, h.1))
      | inr q ↦ (let h = (is k).0 q in
          (StandsBefore-itself number index k.place h.0, subst (λ (x : Place). IsToKeep p budget x.method x.index k.target) (sym h.0) h.1))
    ]),
    λ both. (adds k).1 (elim (StandsBefore-next number index k.place both.0) [
      | inl earlier ↦ inl ((was k).1 (earlier, both.1))
      | inr same ↦ inr ((is k).1 (same, subst (λ (x : Place). IsToKeep p budget x.method x.index k.target) same both.1))
    ]),
  )

  -- one more, which keeps none
  pub kept_same : (number index : ℕ) (kept : List Kept) → ((target : ℕ) → IsToKeep p budget number index target → ⊥)
      → AreKeptBefore p budget number index kept → AreKeptBefore p budget number (index + 1) kept
  kept_same number index kept none was k = (
    (λ has. let h = (was k).0 has in (StandsBefore-later number index k.place h.0, h.1)),
    λ both. elim (StandsBefore-next number index k.place both.0) [
      | inl earlier ↦ (was k).1 (earlier, both.1)
      | inr same ↦ absurd (none k.target (subst (λ (x : Place). IsToKeep p budget x.method x.index k.target) same both.1))
    ],
  )

  -- a call stands within its method
  HasTarget-within : (number index target : ℕ) (m : LinkedMethod) → slice_get p.methods number ≡ Some m → HasTarget p number index target → index < length m.code
  HasTarget-within number index target m there t =
      let same : t.method ≡ m = let other = t.there in cc in
      subst (λ (x : LinkedMethod). index < length x.code) same (slice_get-below t.method.code index _ t.call)

  -- the end of a method
  pub kept_end : (number index : ℕ) (m : LinkedMethod) (kept : List Kept) → slice_get p.methods number ≡ Some m → length m.code ≤ index
      → AreKeptBefore p budget number index kept → AreKeptBefore p budget (number + 1) 0 kept
  kept_end number index m kept there past was k = (
    (λ has. let h = (was k).0 has in (
      elim h.0 [
        | inl earlier ↦ inl (let lt : k.place.method < number = earlier in omega arith)
        | inr here ↦ inl (let same : k.place.method ≡ number = here.0 in omega arith)
      ],
      h.1,
    )),
    λ both. (was k).1 (
      elim both.0 [
        | inl earlier ↦ elim (cases_lt k.place.method number) [
          | inl less ↦ inl less
          | inr more ↦
              let same : k.place.method ≡ number = let lt : k.place.method < number + 1 = earlier in omega arith in
              let below : k.place.index < length m.code = HasTarget-within k.place.method k.place.index k.target m (subst (λ n. slice_get p.methods n ≡ Some m) (sym same) there) both.1.has in
              inr (same, omega arith)
        ]
        | inr none ↦ absurd (let lt : k.place.index < 0 = none.1 in omega arith)
      ],
      both.1,
    ),
  )

  -- no statement is looked at
  pub kept_none : AreKeptBefore p budget 0 0 []
  kept_none k = (
    (λ has. let there = has.1 in cc),
    λ both. elim both.0 [
      | inl earlier ↦ absurd (let lt : k.place.method < 0 = earlier in omega arith)
      | inr none ↦ absurd (let lt : k.place.index < 0 = none.1 in omega arith)
    ],
  )

  -- all are
  pub kept_all : (count : ℕ) (kept : List Kept) → length p.methods ≤ count → AreKeptBefore p budget count 0 kept → AreToKeep p budget kept
  kept_all count kept end was number index target =
      let k : Kept = record { place = record { method = number; index = index }; target = target } in (
        (λ has. ((was k).0 has).1),
        λ is. (was k).1 (inl (let below : number < length p.methods = slice_get-below p.methods number is.has.method is.has.there in omega arith), is),
      )
