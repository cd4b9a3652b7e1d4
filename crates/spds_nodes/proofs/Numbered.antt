-- What numbers give, one number after the other.
use Rattle.std.proofs.Common.{◌≡◌, ℕ, ◌+◌, ◌<◌, ◌⊎◌, List, subst, inl, inr, arith}
use Rattle.std.proofs.lemmas.Bool.{cases_order}
use Rattle.spds_nodes.specs.Added.{IsAdded, Over}
use Rattle.spds_nodes.proofs.Joined.{IsAdded-same, IsAdded-then}

module _ {X : Type 0} (Gives : ℕ → X → Type 0) where
  -- one more
  pub Below-next : (old mid new : List X) (k : ℕ) → ((a b : ℕ) (x : X) → Gives a x → Gives b x → a ≡ b)
      → IsAdded (Over (λ i. i < k) Gives) old mid → IsAdded (Gives k) mid new → IsAdded (Over (λ i. i < k + 1) Gives) old new
  Below-next old mid new k one before here =
      IsAdded-same (λ x. Over (λ i. i < k) Gives x ⊎ Gives k x) (Over (λ i. i < k + 1) Gives) old new
      (λ x. (
        (λ either. elim either [ inl over ↦ (over.0, omega (arith, over.1), over.2) | inr gives ↦ (k, omega arith, gives) ]),
        (λ over. elim (cases_order over.0 k) [
          | inl same ↦ inr (subst (λ i. Gives i x) same over.2)
          | inr other ↦ elim other [ inl less ↦ inl (over.0, less, over.2) | inr more ↦ absurd (omega (arith, over.1, more)) ]
        ]),
      ))
      (IsAdded-then (Over (λ i. i < k) Gives) (Gives k) old mid new
      (λ x over gives. let same = one over.0 k x over.2 gives in omega (arith, over.1, same)) before here)

  -- all
  pub Below-end : (old new : List X) (k : ℕ) → ((i : ℕ) (x : X) → Gives i x → i < k) → IsAdded (Over (λ i. i < k) Gives) old new
      → IsAdded (λ x. (i : ℕ) × Gives i x) old new
  Below-end old new k below added =
      IsAdded-same (Over (λ i. i < k) Gives) (λ x. (i : ℕ) × Gives i x) old new
      (λ x. ((λ over. (over.0, over.2)), (λ any. (any.0, below any.0 x any.1, any.1)))) added
