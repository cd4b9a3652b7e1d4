-- What a work is: the system that it saturates, and whether its table has come to the end.
use Rattle.std.specs.Prelude.{ℕ, ◌+◌, ◌≤◌, Bool, ◌&&◌, ◌==◌, List, [], ◌++◌, length, take}
use Rattle.auto_table.specs.declared.rule.Rule.{Rule}
use Rattle.auto_table.specs.Cells.{Cells}
use Rattle.post_star.specs.declared.bases.Start.{Start}
use Rattle.post_star.specs.declared.bases.BaseStep.{BaseStep}
use Rattle.post_star.specs.Derivations.{IsLed}
use Rattle.post_star.specs.declared.index.Index.{Index}
use Rattle.post_star.specs.Index.{IsIndex}
use Rattle.post_star.specs.Works.{AreTold, IsTold, IsSound, IsClosedTo}
use Rattle.weight_laws.specs.Law.{Domain}

-- the system, and whether the table has its values
pub record Job (W : Type 0) : Type 0 where
  pub steps : List BaseStep
  pub last : ℕ
  pub rules : List (Rule W)
  pub starts : List (Start W)
  pub settled : Bool

-- all rules and all starts are taken in
abbrev pub all_taken : {W : Type 0} → List (Rule W) → List (Start W) → ℕ → ℕ → Bool
all_taken rules starts taken begun = (taken == length rules) && (begun == length starts)

-- what works have in common
pub record Stock (W : Type 0) : Type 0 where
  pub rules : List (Rule W)
  pub steps : List BaseStep
  pub last : ℕ

-- what holds of its fields
pub record IsStock {W : Type 0} (d : Domain W) (rules : List (Rule W)) (steps : List BaseStep) (last : ℕ) (index : Index W) : Type 0 where
  pub told : AreTold d rules
  pub led : IsLed {W = W} [] steps last
  pub indexed : IsIndex rules steps index

-- what holds of the fields of each work: of the common rules, all are done in each table
pub record IsWork {W : Type 0} (d : Domain W) (common : Stock W) (own : List (Rule W)) (index : Index W) (starts : List (Start W)) (table : Cells W) (taken begun : ℕ) : Type 0 where
  pub told : IsTold d (common.rules ++ own) starts
  pub led : IsLed starts common.steps common.last
  pub indexed : IsIndex (take taken own) [] index
  pub sound : IsSound d (common.rules ++ own) starts common.steps table
  pub closed : IsClosedTo d (common.rules ++ own) (length common.rules + taken) starts begun common.steps table
  pub taken_in : taken ≤ length own
  pub begun_in : begun ≤ length starts
