-- What a reply tells: a place is refused exactly for its first part that isn't there, and the errors of a demand are handed on.
use Rattle.std.proofs.Common.{◌≡◌, ◌↔◌, ℕ, Ok, Err, ap, ◌∙◌, subst}
use Rattle.std.specs.Result.{IfOk, IsErrAnd}
use Rattle.std.specs.declared.result.Result.{Result}
use Rattle.demand_set.specs.declared.demanded.DemandError.{DemandError}
use Rattle.demand_set.specs.declared.demanded.DemandError.TheVariants as demand
use Rattle.query_core.specs.declared.error.QueryError.{QueryError}
use Rattle.query_core.specs.declared.error.QueryError.TheVariants.{NoSuchPlace, OverBudget}
use Rattle.query_core.specs.declared.places.Which.{Which}
use Rattle.query_core.specs.Errors.{IsSameError}

module _ {A : Type 0} (Missing : Which → Type 0) (r : Result A QueryError) where
  -- the part that is told is missing, and one part is the first
  pub refused_exactly : (part : Which) → r ≡ Err (NoSuchPlace part) → Missing part → ((w v : Which) → Missing w → Missing v → w ≡ v) → (which : Which)
      → (r ≡ Err (NoSuchPlace which)) ↔ Missing which
  refused_exactly part is missing one which = (
    λ e. let same : part ≡ which = cc in subst Missing same missing,
    λ there. let same : part ≡ which = one part which missing there in is ∙ ap (λ (w : Which). Err (NoSuchPlace w)) same,
  )

  -- no part is told, and none is missing
  pub refused_never : ((part : Which) → r ≡ Err (NoSuchPlace part) → ⊥) → ((part : Which) → Missing part → ⊥) → (which : Which)
      → (r ≡ Err (NoSuchPlace which)) ↔ Missing which
  refused_never untold there which = (λ e. absurd (untold which e), λ missing. absurd (there which missing))

-- the error that a `?` hands on
pub is_err : {A : Type 0} (r : Result A QueryError) (e : QueryError) → IsErrAnd r (λ x. x ≡ e) → r ≡ Err e
is_err (Ok a) e h = absurd h
is_err (Err x) e h = ap Err h

module _ {A : Type 0} where
  -- the error of a demand that a `?` hands on is no missing part
  pub demanded_never : (r : Result A QueryError) (e : DemandError) → IsErrAnd r (IsSameError e) → (part : Which) → r ≡ Err (NoSuchPlace part) → ⊥
  demanded_never (Ok a) e h part is = absurd h
  demanded_never (Err x) (demand.OverBudget budget) h part is = cc
  demanded_never (Err x) demand.NoMemory h part is = cc

  -- and over the budget exactly where that is
  pub demanded_over : (r : Result A QueryError) (e : DemandError) → IsErrAnd r (IsSameError e) → (spent : ℕ) → r ≡ Err (OverBudget spent)
      → e ≡ demand.OverBudget spent
  demanded_over (Ok a) e h spent is = absurd h
  demanded_over (Err x) (demand.OverBudget budget) h spent is = cc
  demanded_over (Err x) demand.NoMemory h spent is = cc

-- what follows for a value, if there is one
pub if_ok : {T E : Type 0} (r : Result T E) (P Q : T → Type 0) → IfOk r P → ((x : T) → P x → Q x) → IfOk r Q
if_ok (Ok x) P Q h f = f x h
if_ok (Err e) P Q h f = tt
