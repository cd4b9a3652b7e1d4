use Rattle.std.proofs.Common.{◌≡◌, ◌∙◌, ℕ, zero, suc, List, [], ◌∷◌, slice_get, Some, refl, sym, ap, subst}
use Rattle.post_star.specs.declared.bases.Start.{Start}
use Rattle.post_star.specs.declared.bases.BaseStep.{BaseStep}
use Rattle.post_star.specs.Derivations.{Leads, step_of, IsNamed, by_start, by_base, by_below}
use Rattle.weight_rows.proofs.saturation.circles.Goals as goal

one_at : {X : Type 0} (x y : X) (i : ℕ) → slice_get (x ∷ []) i ≡ Some y → x ≡ y
one_at x y zero h = cc
one_at x y (suc i) h = cc

abbrev three : List BaseStep
three = step_of 1 5 2 ∷ step_of 2 6 2 ∷ step_of 2 5 0 ∷ []

-- each base of the steps leads to 0
abbrev IsLedTo0 : ℕ → Type 0
IsLedTo0 b = (word : List ℕ) × Leads three b word 0

from_0 : IsLedTo0 0
from_0 = ([], refl)

from_2 : IsLedTo0 2
from_2 = (5 ∷ [], (0, (2, refl), refl))

from_1 : IsLedTo0 1
from_1 = (5 ∷ 5 ∷ [], (2, (0, refl), (0, (2, refl), refl)))

step_led : (q : BaseStep) (i : ℕ) → slice_get three i ≡ Some q → IsLedTo0 q.base × IsLedTo0 q.below
step_led q zero h = let same : step_of 1 5 2 ≡ q = cc in subst (λ (z : BaseStep). IsLedTo0 z.base × IsLedTo0 z.below) same (from_1, from_2)
step_led q (suc zero) h = let same : step_of 2 6 2 ≡ q = cc in subst (λ (z : BaseStep). IsLedTo0 z.base × IsLedTo0 z.below) same (from_2, from_2)
step_led q (suc (suc zero)) h = let same : step_of 2 5 0 ≡ q = cc in subst (λ (z : BaseStep). IsLedTo0 z.base × IsLedTo0 z.below) same (from_2, from_0)
step_led q (suc (suc (suc i))) h = cc

led : {W : Type 0} (s : Start W) → s.base ≡ 1 → (b : ℕ) → IsNamed (s ∷ []) three b → IsLedTo0 b
led s is b (by_start q h e) = subst (λ (z : ℕ). IsLedTo0 z) (sym is ∙ ap (λ (z : Start _). z.base) (one_at s q h.0 h.1) ∙ e) from_1
led s is b (by_base q h e) = subst (λ (z : ℕ). IsLedTo0 z) e (step_led q h.0 h.1).0
led s is b (by_below q h e) = subst (λ (z : ℕ). IsLedTo0 z) e (step_led q h.0 h.1).1

pub saturate-requires : goal.saturate-requires
saturate-requires c = rw c.requires (record { led = led _ refl })
