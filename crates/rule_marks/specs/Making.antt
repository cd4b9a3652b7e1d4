-- The split system, by lists of numbers.
use Rattle.std.specs.Prelude.{◌≡◌, ◌↔◌, ◌⊎◌, ◌<◌, ◌+◌, ◌-◌, ℕ, Bool, true, false, List, [], ◌∷◌, ◌++◌, ◌||◌, cond, eqb, get_or, ltb}
use Rattle.auto_table.specs.declared.rule.Rule.{Rule}
use Rattle.auto_table.specs.declared.rule.Rule.TheVariants.{Push, Pop}
use Rattle.lists.specs.Lists.{Has}
use Rattle.post_star.specs.declared.bases.Start.{Start}
use Rattle.post_star.specs.declared.bases.BaseStep.{BaseStep}
use Rattle.weight_laws.specs.Law.{Domain}
use Rattle.rule_marks.specs.Joined.{source, target}
use Rattle.rule_marks.specs.Split.{At, Entry, Exit, HavePlaces, IsSplitRule, IsSplitStep, Place, Splitting}

-- the places of nodes: so many of the system itself, then an entry and then an exit for each of these
abbrev pub node_place_of : ℕ → ℕ → Place
node_place_of count n = cond (ltb n count) (At n) (cond (ltb n (count + count)) (Entry (n - count)) (Exit (n - (count + count))))

-- the places of bases: so many of the system itself, and then for each the base below
abbrev pub base_place_of : ℕ → ℕ → Place
base_place_of count b = cond (ltb b count) (At b) (Exit (b - count))

-- the marks that are flagged are split, and the common mark
abbrev pub splits_by : List Bool → ℕ → ℕ → Bool
splits_by flags common k = eqb k common || get_or flags k false

-- Marks that are split wherever they stand: all nodes and bases are said to stand in one room. So many nodes and bases are of the system itself.
abbrev pub splitting_of : (ℕ → Bool) → ℕ → ℕ → ℕ → Splitting
splitting_of is_split common nodes bases = record {
  room = λ n. 0;
  base_room = λ b. 0;
  home = λ k. 0;
  is_split = λ room k. is_split k;
  common = common;
  entry = λ n. nodes + n;
  exit = λ n. nodes + (nodes + n);
  below = λ b. bases + b;
  node_place = node_place_of nodes;
  base_place = base_place_of bases;
}

-- rules and starts name nodes below the one count, and starts and steps bases below the other
pub record AreWithin {W : Type 0} (nodes bases : ℕ) (rules : List (Rule W)) (starts : List (Start W)) (steps : List BaseStep) (last : ℕ) : Type 0 where
  pub rule_nodes : (r : Rule W) → Has rules r → (source r < nodes) × (target r < nodes)
  pub start_nodes : (s : Start W) → Has starts s → (s.node < nodes) × (s.base < bases)
  pub step_bases : (x : BaseStep) → Has steps x → (x.base < bases) × (x.below < bases)
  pub last_base : last < bases

-- then nodes and bases have places
abbrev pub ListsGivePlaces : {W : Type 0} → Domain W → Type 0
ListsGivePlaces {W} d = (is_split : ℕ → Bool) (common nodes bases : ℕ) (rules : List (Rule W)) (starts : List (Start W)) (steps : List BaseStep) (last : ℕ)
    → AreWithin nodes bases rules starts steps last → HavePlaces (splitting_of is_split common nodes bases) rules starts steps last

-- the list has these two besides what it had, and no others
abbrev pub AreAdded : {X : Type 0} → List X → X → X → List X → Type 0
AreAdded {X} old a b new = (x : X) → Has new x ↔ (Has old x ⊎ ((x ≡ a) ⊎ (x ≡ b)))

-- the rules so far are split, and common marks that are flagged are pushed and popped there
pub record IsWriting {W : Type 0} (d : Domain W) (s : Splitting) (rules made : List (Rule W)) (entries exits : List Bool) : Type 0 where
  pub rules_are : (r : Rule W) → Has made r ↔ IsSplitRule d s rules r
  pub entries_there : (n : ℕ) → get_or entries n false ≡ true → Has made (Push (s.entry n) n s.common d.one)
  pub exits_there : (n : ℕ) → get_or exits n false ≡ true → Has made (Pop n s.common (s.exit n) d.one)

-- one rule more is split
abbrev pub WritesOne : {W : Type 0} → Domain W → Splitting → Rule W → List (Rule W) → List Bool → List Bool → List (Rule W) → List Bool → List Bool → Type 0
WritesOne {W} d s q made entries exits new_made new_entries new_exits =
    (rules : List (Rule W)) → IsWriting d s rules made entries exits → IsWriting d s (rules ++ q ∷ []) new_made new_entries new_exits

-- the split rules, and the split steps
abbrev pub AreSplitRules : {W : Type 0} → Domain W → Splitting → List (Rule W) → List (Rule W) → Type 0
AreSplitRules {W} d s rules made = (r : Rule W) → Has made r ↔ IsSplitRule d s rules r

pub record AreStepsOf (s : Splitting) (steps made : List BaseStep) : Type 0 where
  pub steps_are : (x : BaseStep) → Has made x ↔ IsSplitStep s steps x

-- one step more is split
abbrev pub WritesStep : Splitting → BaseStep → List BaseStep → List BaseStep → Type 0
WritesStep s q made new = (steps : List BaseStep) → AreStepsOf s steps made → AreStepsOf s (steps ++ q ∷ []) new
