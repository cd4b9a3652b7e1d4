-- The place of a class: how many stand after it in the order.
use Rattle.std.proofs.Common.{◌≡◌, ℕ, ◌+◌, ◌<◌, ◌≤◌, ◌⊎◌, Some, List, length, get_or, slice_get, set, take, sym, ap, subst, ◌∙◌, inl, inr, arith, get_or-set_same, get_or-set_other}
use Rattle.std.specs.List.{Contains}
use Rattle.std.proofs.lemmas.Bool.{cases_eq}
use Rattle.std.proofs.lemmas.List.{get_or-take, length-take-le}
use Rattle.std.proofs.lemmas.Option.{slice_get-get_or, slice_get_within, get_or_from_slice_get}
use Rattle.class_order.specs.Tables.{Under, IsSettled, IsFinishing, ArePlaces}
use Rattle.class_order.proofs.Listed.{group-past}
use Rattle.lists.proofs.Elements.{Contains-at, Contains-nil}
use Rattle.class_order.proofs.Searches.{settled_bound}

-- where an element of the first i stands
pub taken_at : {X : Type 0} (xs : List X) (i : ℕ) (x : X) → i ≤ length xs → Contains (take i xs) x → (j : ℕ) × (j < i) × (slice_get xs j ≡ Some x)
taken_at xs i x h m =
    let lt : m.0 < i = omega (arith, m.1, length-take-le i xs h) in
    (m.0, lt, slice_get-get_or xs m.0 x (omega arith) ∙ ap Some (sym (get_or-take i xs m.0 x lt) ∙ m.2))

pub Contains-taken : {X : Type 0} (xs : List X) (i j : ℕ) (x : X) → j < i → i ≤ length xs → slice_get xs j ≡ Some x → Contains (take i xs) x
Contains-taken xs i j x lt h e = (j, omega (arith, length-take-le i xs h), get_or-take i xs j x lt ∙ get_or_from_slice_get xs j x x e)

-- the classes before index `at` have their places
pub record ArePlaced (order : List ℕ) (at : ℕ) (places : List ℕ) : Type 0 where
  pub placed : (j c : ℕ) → j < at → slice_get order j ≡ Some c → get_or places c 0 + 1 + j ≡ length order

pub placed_more : (below : List (List ℕ)) (order places : List ℕ) (at c value : ℕ) → IsSettled below order → length places ≡ length below → slice_get order at ≡ Some c → value + 1 + at ≡ length order
    → ArePlaced order at places → ArePlaced order (at + 1) (set places c value)
placed_more below order places at c value s len here is p = record { placed = λ j d lt e. by j d e (below_or_at j lt) }
  where
    below_or_at : (j : ℕ) → j < at + 1 → (j < at) ⊎ (j ≡ at)
    below_or_at j h = grind arith

    within : at < length order
    within = slice_get_within order at c here

    known : c < length places
    known = omega (arith, len, s.within c (Contains-at order at c here))

    by : (j d : ℕ) → slice_get order j ≡ Some d → (j < at) ⊎ (j ≡ at) → get_or (set places c value) d 0 + 1 + j ≡ length order
    by j d e (inl lt) = elim (cases_eq d c) [
      | inl same ↦ absurd (s.once at c here (subst (Contains (take at order)) same (Contains-taken order at j d lt (omega arith) e)))
      | inr apart ↦ rw (get_or-set_other places c d value 0 apart) (p.placed j d lt e)
    ]
    by j d e (inr at') = let same : d ≡ c = cc (sym e ∙ ap (slice_get order) at' ∙ here) in
        let read = ap (λ k. get_or (set places c value) k 0) same ∙ get_or-set_same places c value 0 known in
        omega (arith, read, is, at')

pub places_done : (below : List (List ℕ)) (order places : List ℕ) (at : ℕ) → ((a b : ℕ) → Under below a b → a < length below) → IsFinishing below order → length places ≡ length below → length order ≤ at → ArePlaced order at places → ArePlaces below places
places_done below order places at known f len over p = record {
  len = len;
  within = λ c h. let i = index c h in omega (arith, p.placed i.0 c (omega (arith, i.1)) i.2, settled_bound below order f.settled);
  own = λ a b ha hb e.
      let i = index a ha in let j = index b hb in
      let same : i.0 ≡ j.0 = omega (arith, p.placed i.0 a (omega (arith, i.1)) i.2, p.placed j.0 b (omega (arith, j.1)) j.2, e) in
      cc (i.2, j.2, ap (slice_get order) same);
  falls = λ a b u. by a b u (below_or b (length below));
}
  where
    index : (c : ℕ) → c < length below → (i : ℕ) × (i < length order) × (slice_get order i ≡ Some c)
    index c h = let m = f.all c h in (m.0, m.1, slice_get-get_or order m.0 c m.1 ∙ ap Some m.2)

    below_or : (a b : ℕ) → (a < b) ⊎ (b ≤ a)
    below_or a b = grind arith

    by : (a b : ℕ) → Under below a b → (b < length below) ⊎ (length below ≤ b) → get_or places b 0 < get_or places a 0
    by a b u (inl h) =
        let i = index b h in
        let j = taken_at order i.0 a (omega (arith, i.1)) (f.settled.after i.0 b a i.2 u) in
        omega (arith, i.1, j.1, p.placed i.0 b (omega (arith, i.1)) i.2, p.placed j.0 a (omega (arith, i.1, j.1)) j.2)
    by a b u (inr h) = absurd (Contains-nil a (subst (λ ys. Contains ys a) (group-past below b h) u))
