-- What the operations on relations mean, state by state.
use Rattle.std.proofs.Common.{◌≡◌, ◌↔◌, ◌⊎◌, inl, inr, ℕ, ◌<◌, ◌^◌, get_or, sym, subst}
use Rattle.std.specs.Int.{bit_at}
use Rattle.std.specs.Int.RustNames.{bit_or}
use Rattle.std.proofs.lemmas.Nat.Bits.{bit_at-pow_same}
use Rattle.weight_laws.specs.declared.rel.Rel.{Rel}
use Rattle.weight_laws.specs.Rel.{HasMeaning, words, reached, Relates, RelatesOver, rel_domain}
use Rattle.weight_laws.specs.RelLaws.{at_words, to_way, from_way, or_cases, or_left, or_right, no_bit, pow_bit}

-- the word of a state, and what it is
moved : (f : ℕ → ℕ) (i k : ℕ) → i < 16 → bit_at (get_or (words f) i 0) k ≡ 1 → bit_at (f i) k ≡ 1
moved f i k h = subst (λ (w : ℕ). bit_at w k ≡ 1) (at_words f i h)

back : (f : ℕ → ℕ) (i k : ℕ) → i < 16 → bit_at (f i) k ≡ 1 → bit_at (get_or (words f) i 0) k ≡ 1
back f i k h = subst (λ (w : ℕ). bit_at w k ≡ 1) (sym (at_words f i h))

composed : (x y : Rel) (i k : ℕ) → i < 16 → Relates (rel_domain.extend x y) i k ↔ RelatesOver x y i k
composed x y i k h = (there, over)
  where
    there : Relates (rel_domain.extend x y) i k → RelatesOver x y i k
    there b = let w = to_way (get_or x.0 i 0) y.0 16 k (moved (λ j. reached (get_or x.0 j 0) y.0 16) i k h b) in (w.state, w.below, w.first, w.second)

    over : RelatesOver x y i k → Relates (rel_domain.extend x y) i k
    over p = back (λ j. reached (get_or x.0 j 0) y.0 16) i k h (from_way (get_or x.0 i 0) y.0 16 k (record { state = p.0; below = p.1; first = p.2; second = p.3 }))

united : (x y : Rel) (i k : ℕ) → i < 16 → Relates (rel_domain.combine x y) i k ↔ (Relates x i k ⊎ Relates y i k)
united x y i k h = (there, over)
  where
    there : Relates (rel_domain.combine x y) i k → Relates x i k ⊎ Relates y i k
    there b = or_cases _ _ k (moved (λ j. bit_or (get_or x.0 j 0) (get_or y.0 j 0)) i k h b)

    over : Relates x i k ⊎ Relates y i k → Relates (rel_domain.combine x y) i k
    over (inl b) = back (λ j. bit_or (get_or x.0 j 0) (get_or y.0 j 0)) i k h (or_left _ _ k b)
    over (inr b) = back (λ j. bit_or (get_or x.0 j 0) (get_or y.0 j 0)) i k h (or_right _ _ k b)

same : (i k : ℕ) → i < 16 → Relates rel_domain.one i k ↔ (k ≡ i)
same i k h = (
  λ b. pow_bit i k (moved (λ j. 2 ^ j) i k h b),
  λ e. back (λ j. 2 ^ j) i k h (subst (λ (j : ℕ). bit_at (2 ^ i) j ≡ 1) (sym e) (bit_at-pow_same i)),
)

none : (i k : ℕ) → i < 16 → Relates rel_domain.zero i k → ⊥
none i k h b = no_bit k (moved (λ _. 0) i k h b)

-- what the operations on relations mean
pub meaning : HasMeaning
meaning = record { extend = composed; combine = united; one = same; zero = none }
