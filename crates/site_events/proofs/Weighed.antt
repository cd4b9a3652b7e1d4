-- Weights that are joined, as the relations that they are.
use Rattle.std.proofs.Common.{◌≡◌, ◌↔◌, ◌⊎◌, inl, inr, ℕ, ◌<◌}
use Rattle.track_systems.specs.Values.{IsWeight}
use Rattle.weight_laws.proofs.Meaning.{meaning}
use Rattle.weight_laws.specs.declared.rel.Rel.{Rel}
use Rattle.weight_laws.specs.Rel.{rel_domain}
use Rattle.weight_laws.specs.RelLaws.{rel_lawful}

-- the weight of the same relation
pub weight_same : {w : Rel} {A B : ℕ → ℕ → Type 0} → IsWeight w A → ((i j : ℕ) → i < 16 → j < 16 → A i j ↔ B i j) → IsWeight w B
weight_same is same = record {
  meant = is.meant;
  each = λ i j low small. (
    λ h. (same i j low small).0 ((is.each i j low small).0 h),
    λ b. (is.each i j low small).1 ((same i j low small).1 b),
  );
}

-- each state stays
pub weight_one : IsWeight rel_domain.one (λ i j. j ≡ i)
weight_one = record { meant = rel_lawful.one_meant; each = λ i j low small. meaning.one i j low }

-- no state leads anywhere
pub weight_zero : IsWeight rel_domain.zero (λ i j. ⊥)
weight_zero = record { meant = rel_lawful.zero_meant; each = λ i j low small. (λ h. meaning.zero i j low h, λ b. absurd b) }

-- one or the other
pub weight_either : {x y : Rel} {A B : ℕ → ℕ → Type 0} → IsWeight x A → IsWeight y B → IsWeight (rel_domain.combine x y) (λ i j. A i j ⊎ B i j)
weight_either {x} {y} {A} {B} first second = record {
  meant = rel_lawful.combine_meant x y first.meant second.meant;
  each = λ i j low small. (
    λ h. elim ((meaning.combine x y i j low).0 h) [ inl l ↦ inl ((first.each i j low small).0 l) | inr r ↦ inr ((second.each i j low small).0 r) ],
    λ b. (meaning.combine x y i j low).1 (elim b [ inl l ↦ inl ((first.each i j low small).1 l) | inr r ↦ inr ((second.each i j low small).1 r) ]),
  );
}

-- one and then the other, over a state among the sixteen
pub weight_then : {x y : Rel} {A B : ℕ → ℕ → Type 0} → IsWeight x A → IsWeight y B
    → IsWeight (rel_domain.extend x y) (λ i k. (j : ℕ) × (j < 16) × A i j × B j k)
weight_then {x} {y} {A} {B} first second = record {
  meant = rel_lawful.extend_meant x y first.meant second.meant;
  each = λ i k low small. (
    λ h. let o = (meaning.extend x y i k low).0 h in (o.0, o.1, (first.each i o.0 low o.1).0 o.2, (second.each o.0 k o.1 small).0 o.3),
    λ b. (meaning.extend x y i k low).1 (b.0, b.1, (first.each i b.0 low b.1).1 b.2, (second.each b.0 k b.1 small).1 b.3),
  );
}
