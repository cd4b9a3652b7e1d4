-- Keys by number that have room, and one more of them.
use Rattle.std.proofs.Common.{◌≡◌, ℕ, ◌+◌, ◌-◌, ◌<◌, ◌≤◌, ◌^◌, ◌++◌, List, [], ◌∷◌, length, min, eqb, true, sym, ◌∙◌, inl, inr, true≢false, arith, length-append}
use Rattle.std.proofs.lemmas.Bool.{cases_eq, ne_eqb}
use Rattle.std.proofs.Math.Nat.{min-le_left, min-le_right}
use Rattle.lists.specs.Chains.{IsFiled}
use Rattle.lists.specs.Lists.{Has}
use Rattle.lists.specs.Numbers.{IsNumbered, limit}
use Rattle.lists.proofs.Places.{IsApart-push}

-- a number that the test finds to be 0
pub eqb-zero : (n : ℕ) → eqb n 0 ≡ true → n ≡ 0
eqb-zero n h = elim (cases_eq n 0) [ inl e ↦ e | inr ne ↦ absurd (true≢false (sym h ∙ ne_eqb n 0 ne)) ]

-- room is within the capacity, the slots and 32 bits
pub room-within : (count capacity : ℕ) (heads : List ℕ) → 0 < min (min capacity (limit heads)) (2 ^ 32 - 1) - count → (count < capacity) × (count < limit heads) × (count + 1 < 2 ^ 32)
room-within count capacity heads room =
    let a : min (min capacity (limit heads)) (2 ^ 32 - 1) ≤ min capacity (limit heads) = min-le_left _ _ in
    let b : min (min capacity (limit heads)) (2 ^ 32 - 1) ≤ 2 ^ 32 - 1 = min-le_right _ _ in
    let c : min capacity (limit heads) ≤ capacity = min-le_left _ _ in
    let d : min capacity (limit heads) ≤ limit heads = min-le_right _ _ in
    (omega (arith, room, a, c), omega (arith, room, a, d), omega (arith, room, b))

-- one key more takes room for one
pub room-put : (count capacity count' capacity' : ℕ) (heads heads' : List ℕ) → count' ≡ count + 1 → capacity ≤ capacity' → length heads' ≡ length heads
    → min (min capacity (limit heads)) (2 ^ 32 - 1) - count ≤ (min (min capacity' (limit heads')) (2 ^ 32 - 1) - count') + 1
room-put count capacity count' capacity' heads heads' one more same = omega (arith, one, more, same)

module _ {K : Type 0} (spread : K → ℕ) (keys : List K) (heads next : List ℕ) (numbered : IsNumbered spread keys heads next) (key : K) where
  -- a new key, filed where there are slots
  pub IsNumbered-put : (new_heads new_next : List ℕ) → (Has keys key → ⊥) → length keys + 1 < 2 ^ 32 → length new_heads ≡ length heads
      → (0 < length heads → IsFiled spread (keys ++ key ∷ []) new_heads new_next) → IsNumbered spread (keys ++ key ∷ []) new_heads new_next
  IsNumbered-put new_heads new_next new few same filed = record {
    apart = IsApart-push keys key numbered.apart new;
    few = omega (arith, few, length-append keys (key ∷ []));
    filed = λ some. filed (omega (arith, some, same));
    wide = λ some. omega (arith, same, numbered.wide (omega (arith, some, same)));
  }
