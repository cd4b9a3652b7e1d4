use Rattle.std.proofs.Common.{◌≡◌, ◌+◌, ◌<◌, ◌⊎◌, ℕ, zero, suc, [], ◌∷◌, Some, slice_get, sym, inl, inr, arith}
use Rattle.lists.specs.Lists.{Has}
use Rattle.weight_rows.proofs.marks.steps_hold.Goals as goal

-- an element of two
one_of_two : {X : Type 0} (a b x : X) → Has (a ∷ b ∷ []) x → (x ≡ a) ⊎ (x ≡ b)
one_of_two a b x has = by has.0 has.1
  where
    by : (i : ℕ) → slice_get (a ∷ b ∷ []) i ≡ Some x → (x ≡ a) ⊎ (x ≡ b)
    by zero at = inl cc
    by (suc zero) at = inr cc
    by (suc (suc i)) at = cc

pub split_steps-requires : goal.split_steps-requires
split_steps-requires c = record {
  fits = λ s has. rw c.marks.ensures.bases (elim (one_of_two c.step.result c.step-2.result s has) [ inl e ↦ rw (e, c.step.ensures) (omega arith) | inr e ↦ rw (e, c.step-2.ensures) (omega arith) ]);
}
