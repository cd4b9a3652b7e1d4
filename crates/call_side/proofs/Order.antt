-- Lists of places in order.
use Rattle.std.proofs.Common.{◌≡◌, ℕ, ◌+◌, ◌<◌, ◌≤◌, List, Some, None, length, get_or, slice_get, take, length-take, inl, inr, true, false, ◌∙◌, sym, ap, subst, arith, rules}
use Rattle.std.specs.List.{AllPairs}
use Rattle.std.proofs.lemmas.Bool.{cases_eq, cases_lt}
use Rattle.std.proofs.lemmas.List.{get_or-take}
use Rattle.std.proofs.lemmas.Option.{get_or_from_slice_get, slice_get-get_or}
use Rattle.lists.proofs.Places.{slice_get-below, slice_get-there}
use Rattle.lists.proofs.Joined.{AllPairs-at}
use Rattle.link_sites.specs.declared.place.Place.{Place}
use Rattle.link_sites.specs.contracts.place.PlacePartialEq.TheImpl as places
use Rattle.link_sites.specs.Places.{ComesBefore}

-- what an index past the end reads
abbrev pub no_place : Place
no_place = record { method = 0; index = 0; raised = false }

-- the derived test on places is equality
pub same_place : (a b : Place) → places.eq-value.it a b ≡ true → a ≡ b
same_place a b h = search rules

pub self_place : (a : Place) → places.eq-value.it a a ≡ true
self_place a = search rules

pub ComesBefore-irreflexive : (x : Place) → ComesBefore x x → ⊥
ComesBefore-irreflexive x h = elim h [ inl a ↦ omega arith | inr b ↦ let lt : x.index < x.index = b.1 in omega arith ]

pub ComesBefore-transitive : (x y z : Place) → ComesBefore x y → ComesBefore y z → ComesBefore x z
ComesBefore-transitive x y z h k =
    elim h [
      | inl a ↦ elim k [ inl c ↦ inl (omega arith) | inr d ↦ inl (let e : y.method ≡ z.method = d.0 in omega arith) ]
      | inr b ↦ elim k [
        | inl c ↦ inl (let e : x.method ≡ y.method = b.0 in omega arith)
        | inr d ↦ inr (b.0 ∙ d.0, let lt : x.index < y.index = b.1 in let less : y.index < z.index = d.1 in omega arith)
      ]
    ]

module _ {X : Type 0} where
  -- what stands in the front of a list
  pub taken_at : (xs : List X) (j i : ℕ) (x : X) → slice_get (take j xs) i ≡ Some x → (i < j) × (slice_get xs i ≡ Some x)
  taken_at xs j i x there =
      let front : i < length (take j xs) = slice_get-below (take j xs) i x there in
      let less : i < j = omega (arith, length-take j xs) in
      let below : i < length xs = omega (arith, length-take j xs) in
      (less, slice_get-get_or xs i x below ∙ ap Some (sym (get_or-take j xs i x less) ∙ get_or_from_slice_get (take j xs) i x x there))

-- where the elements of a list in order stand
pub ordered_places : (xs : List Place) (i j : ℕ) (x y : Place) → AllPairs ComesBefore xs → slice_get xs i ≡ Some x → slice_get xs j ≡ Some y → ComesBefore x y → i < j
ordered_places xs i j x y ordered first second before =
    elim (cases_lt i j) [
      | inl less ↦ less
      | inr more ↦ elim (cases_eq i j) [
        | inl e ↦ absurd (ComesBefore-irreflexive x (let f : slice_get xs j ≡ Some x = subst (λ (k : ℕ). slice_get xs k ≡ Some x) e first in let same : y ≡ x = cc in subst (λ (u : Place). ComesBefore x u) same before))
        | inr n ↦ absurd (ComesBefore-irreflexive x (ComesBefore-transitive x y x before (AllPairs-at ComesBefore xs j i y x ordered (omega arith) second first)))
      ]
    ]

-- a place stands once
pub ordered_once : (xs : List Place) (i j : ℕ) (x : Place) → AllPairs ComesBefore xs → slice_get xs i ≡ Some x → slice_get xs j ≡ Some x → i ≡ j
ordered_once xs i j x ordered first second =
    elim (cases_lt i j) [
      | inl less ↦ absurd (ComesBefore-irreflexive x (AllPairs-at ComesBefore xs i j x x ordered less first second))
      | inr more ↦ elim (cases_lt j i) [
        | inl less ↦ absurd (ComesBefore-irreflexive x (AllPairs-at ComesBefore xs j i x x ordered less second first))
        | inr same ↦ omega arith
      ]
    ]

-- the places up to one that comes before another come before it, and those from one that doesn't don't
pub rank_more : (xs : List Place) (middle : ℕ) (m place : Place) → AllPairs ComesBefore xs → slice_get xs middle ≡ Some m → ComesBefore m place
    → (k : ℕ) (x : Place) → k < middle + 1 → slice_get xs k ≡ Some x → ComesBefore x place
rank_more xs middle m place ordered there before k x less here =
    elim (cases_lt k middle) [
      | inl lower ↦ ComesBefore-transitive x m place (AllPairs-at ComesBefore xs k middle x m ordered lower here there) before
      | inr more ↦
          let e : k ≡ middle = omega arith in
          let same : slice_get xs middle ≡ Some x = subst (λ (i : ℕ). slice_get xs i ≡ Some x) e here in
          let one : m ≡ x = cc in
          subst (λ (y : Place). ComesBefore y place) one before
    ]

pub rank_less : (xs : List Place) (middle : ℕ) (m place : Place) → AllPairs ComesBefore xs → slice_get xs middle ≡ Some m → (ComesBefore m place → ⊥)
    → (k : ℕ) (x : Place) → middle ≤ k → slice_get xs k ≡ Some x → ComesBefore x place → ⊥
rank_less xs middle m place ordered there none k x less here before =
    elim (cases_lt middle k) [
      | inl higher ↦ none (ComesBefore-transitive m x place (AllPairs-at ComesBefore xs middle k m x ordered higher there here) before)
      | inr more ↦
          let e : k ≡ middle = omega arith in
          let same : slice_get xs middle ≡ Some x = subst (λ (i : ℕ). slice_get xs i ≡ Some x) e here in
          let one : x ≡ m = cc in
          none (subst (λ (y : Place). ComesBefore y place) one before)
    ]

-- a place that stands at an index has this rank
pub rank_there : (xs : List Place) (at mark : ℕ) (place : Place) → AllPairs ComesBefore xs → at ≤ length xs → ((k : ℕ) (x : Place) → k < at → slice_get xs k ≡ Some x → ComesBefore x place)
    → ((k : ℕ) (x : Place) → at ≤ k → slice_get xs k ≡ Some x → ComesBefore x place → ⊥) → slice_get xs mark ≡ Some place → at ≡ mark
rank_there xs at mark place ordered within before behind there =
    elim (cases_lt mark at) [
      | inl lower ↦ absurd (ComesBefore-irreflexive place (before mark place lower there))
      | inr more ↦ elim (cases_lt at mark) [
        | inl higher ↦
            let below : mark < length xs = slice_get-below xs mark place there in
            let x = slice_get-there xs at (omega arith) in
            absurd (behind at x.0 (omega arith) x.1 (AllPairs-at ComesBefore xs at mark x.0 place ordered higher x.1 there))
        | inr same ↦ omega arith
      ]
    ]

-- what looking a place up gives
pub mark_there : (xs : List Place) (at : ℕ) (place : Place) → AllPairs ComesBefore xs → slice_get xs at ≡ Some place
    → (mark : ℕ) → (Some at ≡ Some mark → slice_get xs mark ≡ Some place) × (slice_get xs mark ≡ Some place → Some at ≡ Some mark)
mark_there xs at place ordered there mark = (
  (λ e. let same : at ≡ mark = cc in subst (λ (i : ℕ). slice_get xs i ≡ Some place) same there),
  (λ h. ap Some (ordered_once xs at mark place ordered there h)),
)

pub mark_none : (xs : List Place) (at : ℕ) (place : Place) → AllPairs ComesBefore xs → at ≤ length xs
    → ((k : ℕ) (x : Place) → k < at → slice_get xs k ≡ Some x → ComesBefore x place) → ((k : ℕ) (x : Place) → at ≤ k → slice_get xs k ≡ Some x → ComesBefore x place → ⊥)
    → (slice_get xs at ≡ Some place → ⊥) → (mark : ℕ) → (None ≡ Some mark → slice_get xs mark ≡ Some place) × (slice_get xs mark ≡ Some place → None ≡ Some mark)
mark_none xs at place ordered within before behind none mark = (
  (λ e. cc),
  (λ h. absurd (none (subst (λ (i : ℕ). slice_get xs i ≡ Some place) (sym (rank_there xs at mark place ordered within before behind h)) h))),
)
