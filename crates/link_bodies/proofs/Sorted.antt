-- Places in the order of their keys.
use Rattle.std.proofs.Common.{◌≡◌, ℕ, ◌+◌, ◌*◌, ◌^◌, ◌<◌, ◌≤◌, List, [], ◌∷◌, ◌++◌, Option, Some, None, length, slice_get, get_or, Bool, true, false, not, refl, sym, subst, inl, inr, arith, eqb, eqb-true, eq-eqb, ltb}
use Rattle.std.specs.Prelude.{IfNone, IfSome}
use Rattle.std.specs.List.{Contains}
use Rattle.std.specs.List.Sorted.{IsNonDecreasingBy, IsPartitionPoint, IsPermutation}
use Rattle.std.proofs.lemmas.Bool.{cases_lt, ltb-true, ltb-false}
use Rattle.std.proofs.lemmas.List.Elements.{All-contains, All-push, Contains-append_left, Contains-push}
use Rattle.std.proofs.lemmas.List.Sorted.{All-permutation, Contains-permutation}
use Rattle.std.proofs.lemmas.Option.{get_or_from_slice_get, slice_get-get_or}
use Rattle.lists.specs.Lists.{IsLeast, Has}
use Rattle.jim_ast.specs.declared.names.NameId.{NameId}
use Rattle.lists.proofs.Places.{slice_get-below}
use Rattle.link_bodies.specs.declared.places.NamedPlace.{NamedPlace}
use Rattle.link_bodies.specs.Places.{AreNamed, IsFirstPlace, IsNamedIn, key_of}

-- what comparing the numbers of two names tells
pub is_name : (a b : NameId) → not (eqb a.0 b.0) ≡ false → a ≡ b
is_name a b e = let same = eqb-true a.0 b.0 (not_false (eqb a.0 b.0) e) in λ k. record { 0 = same k }
  where
    not_false : (x : Bool) → not x ≡ false → x ≡ true
    not_false true e = refl
    not_false false e = cc

pub other_name : (a b : NameId) → not (eqb a.0 b.0) ≡ true → a ≡ b → ⊥
other_name a b e same = let is = eq-eqb a.0 b.0 (λ k. (same k).0) in cc (e, is)

-- one place more
pub named_more : (names : List NameId) (end : ℕ) (name : NameId) (places : List NamedPlace) → AreNamed names end places → slice_get names end ≡ Some name → end < 2 ^ 32
    → AreNamed names (end + 1) (places ++ record { name = name; place = end } ∷ [])
named_more names end name places before there small =
    let last : NamedPlace = record { name = name; place = end } in
    record {
      each = All-push (IsNamedIn names) places last before.each (record { there = there; small = small });
      all = λ i other below at. elim (cases_lt i end) [
        | inl less ↦ Contains-append_left places (last ∷ []) _ (before.all i other less at)
        | inr not ↦ (let same : i ≡ end = omega (arith, below, not) in
            let moved : slice_get names end ≡ Some other = subst (λ k. slice_get names k ≡ Some other) same at in
            let one : name ≡ other = cc (moved, there) in
            subst (Contains (places ++ last ∷ [])) (λ k. record { name = one k; place = sym same k }) (Contains-push places last))
      ];
    }

-- up to the end they are all
pub all_named : (names : List NameId) (end : ℕ) (places : List NamedPlace) → length names ≤ end → AreNamed names end places → AreNamed names (length names) places
all_named names end places enough named = record { each = named.each; all = λ i name below at. named.all i name (omega (arith, enough, below)) at }

-- in another order they are the same places
pub named_moved : (names : List NameId) (end : ℕ) (old new : List NamedPlace) → IsPermutation old new → AreNamed names end old → AreNamed names end new
named_moved names end old new moved named = record {
  each = All-permutation (IsNamedIn names) old new moved named.each;
  all = λ i name below at. Contains-permutation old new _ moved (named.all i name below at);
}

-- behind all places whose names have lesser numbers
module _ (names : List NameId) (items : List NamedPlace) (named : AreNamed names (length names) items) (ordered : IsNonDecreasingBy key_of items) (name : NameId) (at : ℕ)
    (point : IsPartitionPoint (λ e. ltb (key_of e) (name.0 * 2 ^ 32) ≡ true) (λ e. ltb (key_of e) (name.0 * 2 ^ 32) ≡ false) items at) where
  -- each place of the name stands
  stands : (i : ℕ) → slice_get names i ≡ Some name → (k : ℕ) × (k < length items) × (at ≤ k) × (get_or items k (record { name = name; place = i }) ≡ record { name = name; place = i })
  stands i there =
      let e : NamedPlace = record { name = name; place = i } in
      let c = named.all i name (slice_get-below names i name there) there in (
        c.0,
        c.1,
        (let no : c.0 < at → ⊥ = λ less.
            let before : ltb (key_of e) (name.0 * 2 ^ 32) ≡ true = subst (λ (x : NamedPlace). ltb (key_of x) (name.0 * 2 ^ 32) ≡ true) c.2 (point.0 c.0 e (omega arith) less) in
            let is_less = ltb-true (key_of e) (name.0 * 2 ^ 32) before in
            omega (arith, is_less) in omega (arith, no)),
        c.2,
      )

  -- so the place at that point is of the name, and none is before it
  module _ (e : NamedPlace) (here : slice_get items at ≡ Some e) where
    -- its key isn't below the name
    high : name.0 * 2 ^ 32 ≤ key_of e
    high =
        let read = get_or_from_slice_get items at e e here in
        let late : ltb (key_of e) (name.0 * 2 ^ 32) ≡ false = subst (λ (x : NamedPlace). ltb (key_of x) (name.0 * 2 ^ 32) ≡ false) read (point.1 at e (omega arith) (slice_get-below items at e here)) in
        ltb-false (key_of e) (name.0 * 2 ^ 32) late

    -- nor is it above that of a place of the name
    low : (i : ℕ) → slice_get names i ≡ Some name → key_of e ≤ name.0 * 2 ^ 32 + i
    low i there =
        let s = stands i there in
        let d : NamedPlace = record { name = name; place = i } in
        let rises : key_of (get_or items at d) ≤ key_of (get_or items s.0 d) = ordered at s.0 d s.2 s.1 in
        let up : key_of (get_or items at d) ≤ key_of d = subst (λ (x : NamedPlace). key_of (get_or items at d) ≤ key_of x) s.3 rises in
        subst (λ (x : NamedPlace). key_of x ≤ key_of d) (get_or_from_slice_get items at e d here) up

    -- it stands in the list
    is : IsNamedIn names e
    is = All-contains (IsNamedIn names) items e named.each (at, slice_get-below items at e here, get_or_from_slice_get items at e e here)

    -- places are small
    small_at : (i : ℕ) → slice_get names i ≡ Some name → i < 2 ^ 32
    small_at i there = (All-contains (IsNamedIn names) items (record { name = name; place = i }) named.each (named.all i name (slice_get-below names i name there) there)).small

    -- where a place has the name, it has it
    same_name : (i : ℕ) → slice_get names i ≡ Some name → e.name ≡ name
    same_name i there =
        let up = high in
        let down = low i there in
        let at_most = is.small in
        let at_most_i = small_at i there in
        let same : e.name.0 ≡ name.0 = omega (arith, up, down, at_most, at_most_i) in
        λ k. record { 0 = same k }

    -- it is the first place of the name
    pub first_place : e.name ≡ name → IsLeast (λ i. slice_get names i ≡ Some name) e.place
    first_place same = record {
      holds = subst (λ n. slice_get names e.place ≡ Some n) same is.there;
      first = λ i before there.
          let down : e.name.0 * 2 ^ 32 + e.place ≤ name.0 * 2 ^ 32 + i = low i there in
          let number : e.name.0 ≡ name.0 = λ k. (same k).0 in
          omega (arith, down, number, before);
    }

    -- a name other than its own has no place
    pub no_place : (e.name ≡ name → ⊥) → Has names name → ⊥
    no_place other has = other (same_name has.0 has.1)

  -- where no place is behind them, the name has none
  pub none_behind : slice_get items at ≡ None → Has names name → ⊥
  none_behind none has =
      let s = stands has.0 has.1 in
      absurd (past items at none s.0 s.1 s.2)
    where
      past : (items : List NamedPlace) (at : ℕ) → slice_get items at ≡ None → (k : ℕ) → k < length items → at ≤ k → ⊥
      past items at none k below le =
          let d = get_or items k (record { name = name; place = 0 }) in
          let some = slice_get-get_or items at d (omega (arith, below, le)) in
          cc (none, some)

-- what a look-up finds, where it finds a place, and where it finds none
pub first_some : (names : List NameId) (name : NameId) (o : Option ℕ) → IsFirstPlace names name o → IfSome o (IsLeast (λ i. slice_get names i ≡ Some name))
first_some names name (Some n) least = least
first_some names name None none = tt

pub first_none : (names : List NameId) (name : NameId) (o : Option ℕ) → IsFirstPlace names name o → IfNone o (Has names name → ⊥)
first_none names name (Some n) least = tt
first_none names name None none = none
