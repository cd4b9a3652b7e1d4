-- The run that digits name, step by step.
use Rattle.std.proofs.Common.{◌≡◌, ◌≢◌, ℕ, zero, suc, ◌+◌, ◌-◌, ◌<◌, ◌≤◌, ◌⊎◌, List, [], ◌∷◌, drop, get_or, length, min, refl, sym, ap, subst, ◌∙◌, inl, inr, add-one, arith}
use Rattle.link_rules.specs.Linked.{LinkedProgram}
use Rattle.step_rules.specs.Runs.{IsFirstState}
use Rattle.step_rules.specs.States.{State, running}
use Rattle.step_rules.specs.Steps.{Choices, HasChoices, Step, told}
use Rattle.step_rules.specs.declared.parts.Moved.{Moved}
use Rattle.step_rules.specs.declared.parts.Moved.TheVariants as moved
use Rattle.run_report.specs.Named.{NamedRun, NamedStep, Takes, digits_of, goes_on}

-- a state that goes on has choices
pub has_of : (p : LinkedProgram) (s : State) (n : ℕ) → s.ending ≡ running → Choices p s n → HasChoices p s n
has_of p s n goes h = elim h [ inl over ↦ absurd (over.0 goes) | inr has ↦ has ]

-- which choice is wanted where so many digits are used
abbrev pub wanted_at : List ℕ → ℕ → ℕ
wanted_at ds used = get_or (drop used (digits_of ds)) 0 0

-- a digit is taken
taken : (ds : List ℕ) (used count : ℕ) → used < length ds → 1 < count
    → Takes count (drop used (digits_of ds)) (min (wanted_at ds used) (count - 1)) (drop (suc used) (digits_of ds))
taken [] used count below more = absurd (omega (arith, below))
taken (d ∷ ds) zero count below more = inr (more, refl, refl)
taken (d ∷ ds) (suc used) count below more = taken ds used count (omega (arith, below)) more

-- no digit is taken, where one would name the first choice or none is left
untaken : (ds : List ℕ) (used count : ℕ) → (count < 2) ⊎ (length ds ≤ used)
    → Takes count (drop used (digits_of ds)) (min (wanted_at ds used) (count - 1)) (drop used (digits_of ds))
untaken [] zero count h = (omega arith, refl)
untaken [] (suc used) count h = (omega arith, refl)
untaken (d ∷ ds) zero count h = elim h [ inl few ↦ inl (omega (arith, few), omega (arith, few), refl) | inr none ↦ absurd (omega (arith, none)) ]
untaken (d ∷ ds) (suc used) count h = untaken ds used count (elim h [ inl few ↦ inl few | inr none ↦ inr (omega (arith, none)) ])

module _ (p : LinkedProgram) (s next : State) (ds : List ℕ) (used count : ℕ) (goes : s.ending ≡ running) (has : Choices p s count)
    (step : Step p s (min (wanted_at ds used) (count - 1)) next) where
  -- a step by a digit
  pub digit_step : used < length ds → 1 < count → NamedStep p (digits_of ds) used s (used + 1) next
  digit_step below more = record {
    count = count;
    choice = min (wanted_at ds used) (count - 1);
    has = has_of p s count goes has;
    takes = subst (λ n. Takes count (drop used (digits_of ds)) (min (wanted_at ds used) (count - 1)) (drop n (digits_of ds))) (sym (add-one used))
        (taken ds used count below more);
    step = step;
  }

  -- a step without one
  pub plain_step : (count < 2) ⊎ (length ds ≤ used) → NamedStep p (digits_of ds) used s used next
  plain_step few = record {
    count = count;
    choice = min (wanted_at ds used) (count - 1);
    has = has_of p s count goes has;
    takes = untaken ds used count few;
    step = step;
  }

-- the first state goes on
pub first_told : (p : LinkedProgram) (s : State) → IsFirstState p s → moved.Went ≡ told s.ending
first_told p s first = ap (λ (x : State). told x.ending) (sym first.is_state)

-- one step more
pub run_more : (p : LinkedProgram) (digits : List ℕ) (made used used_then : ℕ) (s next : State) → NamedRun p digits made s (drop used digits)
    → NamedStep p digits used s used_then next → NamedRun p digits (made + 1) next (drop used_then digits)
run_more p digits made used used_then s next run step =
    subst (λ n. NamedRun p digits n next (drop used_then digits)) (sym (add-one made)) (goes_on run step.has step.takes step.step)

-- a run that goes on tells so
pub told_over : (s : State) (m : Moved) → m ≡ told s.ending → m ≢ moved.Went → s.ending ≢ running
told_over s m is not goes = not (is ∙ ap told goes)
