-- Sums of relations, state by state.
use Rattle.std.proofs.Common.{◌↔◌, ℕ, ◌<◌, subst, inl, inr}
use Rattle.post_star.specs.Derivations.{Combines, IsSumOf, both, none, one}
use Rattle.weight_laws.proofs.Meaning.{meaning}
use Rattle.weight_laws.specs.declared.rel.Rel.{Rel}
use Rattle.weight_laws.specs.Rel.{Relates, rel_domain}

module _ (kind : Rel → Type 0) where
  -- what a combination leads to, one of its weights does
  one_of_sum : {v : Rel} → Combines rel_domain kind v → (i j : ℕ) → i < 16 → Relates v i j → (w : Rel) × kind w × Relates w i j
  one_of_sum none = λ i j low h. absurd (meaning.zero i j low h)
  one_of_sum (one {x} is) = λ i j low h. (x, is, h)
  one_of_sum (both {x} {y} first second) = λ i j low h. elim ((meaning.combine x y i j low).0 h) [
    | inl left ↦ one_of_sum first i j low left
    | inr right ↦ one_of_sum second i j low right
  ]

  -- a sum leads exactly where some weight of the kind does
  pub sum_leads : (v : Rel) → IsSumOf rel_domain kind v → (i j : ℕ) → i < 16 → Relates v i j ↔ ((w : Rel) × kind w × Relates w i j)
  sum_leads v is i j low = (
    one_of_sum is.finite i j low,
    λ h. subst (λ (w : Rel). Relates w i j) (is.above h.0 h.1) ((meaning.combine h.0 v i j low).1 (inl h.2)),
  )
