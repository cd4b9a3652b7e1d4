-- Why a query has no answer.
use Rattle.std.specs.Prelude.{◌≡◌}
use Rattle.demand_set.specs.declared.demanded.DemandError.{DemandError}
use Rattle.demand_set.specs.declared.demanded.DemandError.TheVariants as demand
use Rattle.query_core.specs.declared.error.QueryError.{QueryError}
use Rattle.query_core.specs.declared.error.QueryError.TheVariants as query

-- the query has no answer for the reason for which its demand isn't known
abbrev pub IsSameError : DemandError → QueryError → Type 0
IsSameError (demand.OverBudget budget) e = e ≡ query.OverBudget budget
IsSameError demand.NoMemory e = e ≡ query.NoMemory
