-- Where steps lead from state to state.
use Rattle.std.specs.Prelude.{ℕ}

-- over any number of steps, none at all too
pub data Leads (Step : ℕ → ℕ → Type 0) (i : ℕ) : ℕ → Type 0 where
  none : Leads Step i i
  more : {j l : ℕ} → Leads Step i j → Step j l → Leads Step i l
