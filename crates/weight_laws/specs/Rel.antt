-- Relations on sixteen states as weights: bit j of word i says that i leads to j.
use Rattle.std.specs.Prelude.{◌≡◌, ℕ, zero, suc, ◌+◌, ◌-◌, ◌^◌, ◌<◌, ◌⊎◌, ◌↔◌, List, [], ◌∷◌, length, map, slice_index, cond, eqb}
use Rattle.std.specs.Int.{bit_at}
use Rattle.std.specs.Int.RustNames.{bit_or}
use Rattle.std.specs.List.{range_with_len}
use Rattle.weight_laws.specs.declared.rel.Rel.{Rel}
use Rattle.weight_laws.specs.Law.{Domain}

-- sixteen words, by their index
abbrev pub words : (ℕ → ℕ) → List ℕ
words f = map f (range_with_len 0 16)

-- the states that the first n states of a word lead to by the words of a relation
abbrev pub reached : ℕ → List ℕ → ℕ → ℕ
reached word relation zero = 0
reached word relation (suc n) = bit_or (reached word relation n) (cond (eqb (bit_at word n) 1) (slice_index relation n) 0)

-- a word for each of sixteen states
pub record IsRelation (r : List ℕ) : Type 0 where
  pub sixteen : length r ≡ 16
  pub fits : (i : ℕ) → slice_index r i < 2 ^ 16

-- how many numbers are still above the words
abbrev pub room : List ℕ → ℕ
room [] = 0
room (w ∷ r) = (2 ^ 16 - 1 - w) + room r

-- composition in order, and union
abbrev pub rel_domain : Domain Rel
rel_domain = record {
  IsMeant = λ x. IsRelation x.0;
  zero = record { 0 = words (λ _. 0) };
  one = record { 0 = words (λ i. 2 ^ i) };
  combine = λ x y. record { 0 = words (λ i. bit_or (slice_index x.0 i) (slice_index y.0 i)) };
  extend = λ x y. record { 0 = words (λ i. reached (slice_index x.0 i) y.0 16) };
  height = λ x. room x.0;
}

-- by the relation the first state leads to the second
abbrev pub Relates : Rel → ℕ → ℕ → Type 0
Relates r i j = bit_at (slice_index r.0 i) j ≡ 1

-- by the one relation and then the other the first state leads to the second, over a state between
abbrev pub RelatesOver : Rel → Rel → ℕ → ℕ → Type 0
RelatesOver x y i k = (j : ℕ) × (j < 16) × Relates x i j × Relates y j k

-- what the operations on relations mean, state by state
pub record HasMeaning : Type 0 where
  pub extend : (x y : Rel) (i k : ℕ) → i < 16 → Relates (rel_domain.extend x y) i k ↔ RelatesOver x y i k
  pub combine : (x y : Rel) (i k : ℕ) → i < 16 → Relates (rel_domain.combine x y) i k ↔ (Relates x i k ⊎ Relates y i k)
  pub one : (i k : ℕ) → i < 16 → Relates rel_domain.one i k ↔ (k ≡ i)
  pub zero : (i k : ℕ) → i < 16 → Relates rel_domain.zero i k → ⊥
