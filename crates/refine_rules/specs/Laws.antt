-- What rounds leave of a program.
use Rattle.std.specs.Prelude.{◌≡◌, ℕ}
use Rattle.link_rules.specs.Linked.{LinkedProgram}
use Rattle.link_rules.specs.WellLinked.{IsWellLinked}
use Rattle.narrow_covers.specs.SameRuns.{HaveSameRuns}
use Rattle.refine_rules.specs.Refined.{IsRefinedBy}
use Rattle.run_covers.specs.Covers.{IsCovered}

-- what rounds keep of a program
pub record AreKeptBy (p q : LinkedProgram) : Type 0 where
  pub well : IsWellLinked q
  pub covered : IsCovered q
  pub runs : HaveSameRuns p q

-- rounds keep runs
abbrev pub RefinedKeepsRuns : Type 0
RefinedKeepsRuns = (p q : LinkedProgram) (budget rounds : ℕ) → IsWellLinked p → IsCovered p → IsRefinedBy budget p rounds q → AreKeptBy p q

-- so many rounds leave one program
abbrev pub RefinedIsDetermined : Type 0
RefinedIsDetermined = (p one two : LinkedProgram) (budget rounds : ℕ) → IsRefinedBy budget p rounds one → IsRefinedBy budget p rounds two → one ≡ two
