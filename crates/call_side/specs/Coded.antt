-- Call systems over split marks: which marks are split is told by the base steps, so works over the same steps code words alike.
use Rattle.std.specs.Prelude.{◌≡◌, ◌<◌, ℕ, Bool, ◌||◌, List, [], eqb, false, slice_index_or}
use Rattle.auto_table.specs.declared.rule.Rule.{Rule}
use Rattle.auto_table.specs.Cells.{Cells}
use Rattle.lists.specs.Lists.{Has}
use Rattle.call_side.specs.Indexed.{BaseList}
use Rattle.post_star.specs.declared.bases.Start.{Start}
use Rattle.post_star.specs.declared.bases.BaseStep.{BaseStep}
use Rattle.post_star.specs.Derivations.{Derives}
use Rattle.post_star.specs.Jobs.{Job, Stock}
use Rattle.post_star.specs.Readings.{IsSaturated}
use Rattle.rule_marks.specs.Making.{AreSplitRules, AreStepsOf, AreWithin, splitting_of}
use Rattle.rule_marks.specs.Split.{Splitting, coded}
use Rattle.weight_laws.specs.declared.reach.Reach.{Reach}
use Rattle.weight_laws.specs.Reach.{reach_domain}
use Rattle.call_side.specs.Crowds.{crowded}

-- the common mark, and how many nodes and bases there may be: those that split marks bring stand behind them
abbrev pub common_mark : ℕ
common_mark = 4294967295

abbrev pub node_count : ℕ
node_count = 1431655765

abbrev pub base_count : ℕ
base_count = 2147483648

-- crowded marks are split, and the common mark
abbrev pub is_split : List BaseStep → ℕ → Bool
is_split steps mark = eqb mark common_mark || crowded steps mark

abbrev pub splitting : List BaseStep → Splitting
splitting steps = splitting_of (is_split steps) common_mark node_count base_count

-- the word with the common mark in front of each mark that is split
abbrev pub code : List BaseStep → List ℕ → List ℕ
code steps word = coded (splitting steps) 0 word

-- a system of so many nodes and bases, and its rules and steps with split marks
pub record IsCoded (rules : List (Rule Reach)) (steps : List BaseStep) (last : ℕ) (split : List (Rule Reach)) (split_steps : List BaseStep) : Type 0 where
  pub within : AreWithin {W = Reach} node_count base_count rules [] steps last
  pub rules_are : AreSplitRules reach_domain (splitting steps) rules split
  pub steps_are : AreStepsOf (splitting steps) steps split_steps

-- base steps with the marks that are crowded, and an index of those with split marks
pub record AreCodedBases (steps : List BaseStep) (crowds : List Bool) (split : BaseList) : Type 0 where
  pub crowds_are : (mark : ℕ) → slice_index_or crowds mark false ≡ crowded steps mark
  pub coded : IsCoded [] steps split.last [] split.steps

-- a work over split marks, of the system of rules, steps and a last base: its starts are those of the system
pub record IsCodedWork (plain : Stock Reach) (work : Job Reach) : Type 0 where
  pub coded : IsCoded plain.rules plain.steps plain.last work.rules work.steps
  pub last : work.last ≡ plain.last
  pub starts : (s : Start Reach) → Has work.starts s → (s.node < node_count) × (s.base < base_count)

-- a table over split marks, of a system
pub record IsCodedTable (job : Job Reach) (t : Cells Reach) : Type 0 where
  pub split : List (Rule Reach)
  pub split_steps : List BaseStep
  pub coded : IsCoded job.rules job.steps job.last split split_steps
  pub starts : (s : Start Reach) → Has job.starts s → (s.node < node_count) × (s.base < base_count)
  pub saturated : IsSaturated reach_domain split job.starts split_steps job.last t

-- the system derives the word at the node
abbrev pub HasWord : Job Reach → ℕ → List ℕ → Type 0
HasWord job node word = Derives reach_domain job.rules job.starts job.steps job.last node word reach_domain.one
