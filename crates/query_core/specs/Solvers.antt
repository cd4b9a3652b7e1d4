-- Calls that solve demands.
use Rattle.std.specs.Prelude.{IfOk, Result}
use Rattle.demand_set.specs.Demands.{DemandParts, IsDemandOf}
use Rattle.link_rules.specs.Linked.{LinkedProgram}
use Rattle.link_rules.specs.WellLinked.{IsWellLinked}
use Rattle.spds_rules.specs.Demand.{Asked}
use Rattle.spds_solve.specs.Solved.{IsSolved, SolvedParts}
use denote.Ref.{Bor}

-- the program is well linked, and these are a demand over it
pub record IsDemanded (p : LinkedProgram) (d : DemandParts) : Type 0 where
  pub well : IsWellLinked p
  pub query : Asked
  pub demand : IsDemandOf p query d

-- they are solved
abbrev pub IsSolution : LinkedProgram → DemandParts → SolvedParts → Type 0
IsSolution p d solved = (q : Asked) → IsDemandOf p q d → IsSolved p q d solved

-- each demand is taken
abbrev pub TakesDemands : (Bor LinkedProgram → Bor DemandParts → Type 0) → Type 0
TakesDemands pre = (p : Bor LinkedProgram) (d : Bor DemandParts) → IsDemanded p.now d.now → pre p d

-- and solved
abbrev pub SolvesDemands : {E : Type 0} → (Bor LinkedProgram → Bor DemandParts → Result SolvedParts E → Type 0) → Type 0
SolvesDemands {E} post = (p : Bor LinkedProgram) (d : Bor DemandParts) (result : Result SolvedParts E) → IsDemanded p.now d.now → post p d result
    → IfOk result (IsSolution p.now d.now)
