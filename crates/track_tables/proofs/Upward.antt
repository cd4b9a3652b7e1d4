-- Marks of the words that lead from bases.
use Rattle.std.proofs.Common.{◌≡◌, ◌⊎◌, ℕ, zero, suc, ◌+◌, List, [], ◌∷◌, Some, slice_get, sym, subst, inl, inr}
use Rattle.call_side.specs.Trails.{AreKept}
use Rattle.lists.specs.Lists.{Has}
use Rattle.post_star.specs.declared.bases.BaseStep.{BaseStep}
use Rattle.post_star.specs.Derivations.{Leads, step_of}
use Rattle.track_tables.specs.Making.{IsOpenAbove, IsPast}
use Rattle.track_tables.proofs.Growing.{kept_has, past_more}

-- the first element of a list, or one of the others
pub in_more : (mark : ℕ) (word : List ℕ) (m : ℕ) → Has (mark ∷ word) m → (m ≡ mark) ⊎ Has word m
in_more mark word m has = by has.0 has.1
  where
    by : (i : ℕ) → slice_get (mark ∷ word) i ≡ Some m → (m ≡ mark) ⊎ Has word m
    by zero h = inl cc
    by (suc i) h = inr (i, h)

-- where the marks above the bases are open, so is each of a word
pub open_from : (steps : List BaseStep) (bases marks : List ℕ) → IsOpenAbove steps bases marks → (word : List ℕ) (base last : ℕ) → Has bases base
    → (mark : ℕ) → Leads steps base word last → Has word mark → Has marks mark
open_from steps bases marks above [] base last has mark leads there = absurd (cc there.1)
open_from steps bases marks above (m ∷ word) base last has mark leads there =
    let step = above (step_of base m leads.0) leads.1 has in
    elim (in_more m word mark there) [
      | inl same ↦ subst (Has marks) (sym same) step.0
      | inr below ↦ open_from steps bases marks above word leads.0 last step.1 mark leads.2 below
    ]

-- the marks above the first bases are open
abbrev pub IsOpenPast : List BaseStep → ℕ → List ℕ → List ℕ → Type 0
IsOpenPast steps at bases marks = (step : BaseStep) → Has steps step → IsPast bases at step.base → Has marks step.mark × Has bases step.below

pub open_more : (steps : List BaseStep) (at base : ℕ) (old new marks more : List ℕ) → AreKept old new → AreKept marks more → slice_get old at ≡ Some base
    → ((step : BaseStep) → Has steps step → step.base ≡ base → Has more step.mark × Has new step.below) → IsOpenPast steps at old marks
    → IsOpenPast steps (at + 1) new more
open_more steps at base old new marks more kept opened there now was step has is = elim (past_more old new at base step.base kept there is) [
  | inl before ↦ let x = was step has before in (kept_has marks more step.mark opened x.0, kept_has old new step.below kept x.1)
  | inr same ↦ now step has same
]
