-- Nodes of a system by other numbers: those of heads without gaps, so that lists by number are short.
use Rattle.std.specs.Prelude.{◌≡◌, ◌↔◌, ◌<◌, ◌≤◌, ◌==◌, ◌++◌, ◌∷◌, [], ℕ, List, Some, cond, get_or, length, slice_get}
use Rattle.auto_table.specs.declared.rule.Rule.{Rule}
use Rattle.auto_table.specs.declared.rule.Rule.TheVariants.{Flow, Push, Pop}
use Rattle.lists.specs.Lists.{Has, IsApart}
use Rattle.post_star.specs.declared.bases.Start.{Start}
use Rattle.post_star.specs.declared.bases.BaseStep.{BaseStep}
use Rattle.post_star.specs.Derivations.{Derives, DerivesAny}
use Rattle.post_star.specs.Index.{from_of}
use Rattle.post_star.specs.Measures.{to_of}
use Rattle.weight_laws.specs.Law.{Domain}
use Rattle.rule_cells.specs.declared.cells.Cell.{Cell}
use Rattle.rule_cells.specs.Made.{head_at}

-- the rule between the new numbers of its nodes
abbrev pub renamed : {W : Type 0} → (ℕ → ℕ) → Rule W → Rule W
renamed f (Flow from to weight) = Flow (f from) (f to) weight
renamed f (Push from to mark weight) = Push (f from) (f to) mark weight
renamed f (Pop from mark to weight) = Pop (f from) mark (f to) weight

-- the start at the new number of its node
abbrev pub renamed_start : {W : Type 0} → (ℕ → ℕ) → Start W → Start W
renamed_start f s = record { base = s.base; node = f s.node; weight = s.weight }

-- The rules and starts of a system by new numbers, and no others. Each node that a rule or a start names has its old number back.
pub record AreRenamed {W : Type 0} (number old_number : ℕ → ℕ) (rules renamed_rules : List (Rule W)) (starts renamed_starts : List (Start W)) : Type 0 where
  pub rules_are : (r : Rule W) → Has renamed_rules r ↔ ((q : Rule W) × Has rules q × (r ≡ renamed number q))
  pub starts_are : (r : Start W) → Has renamed_starts r ↔ ((s : Start W) × Has starts s × (r ≡ renamed_start number s))
  pub sources : (q : Rule W) → Has rules q → old_number (number (from_of q)) ≡ from_of q
  pub targets : (q : Rule W) → Has rules q → old_number (number (to_of q)) ≡ to_of q
  pub start_nodes : (s : Start W) → Has starts s → old_number (number s.node) ≡ s.node

-- a node that has its old number back has the same derivations by its new one
abbrev pub DerivationsAreRenamed : {W : Type 0} → Domain W → Type 0
DerivationsAreRenamed {W} d = (number old_number : ℕ → ℕ) (rules few : List (Rule W)) (starts few_starts : List (Start W))
    → AreRenamed number old_number rules few starts few_starts → (n : ℕ) → old_number (number n) ≡ n → (steps : List BaseStep) (last : ℕ) (word : List ℕ) (x : W)
    → Derives d rules starts steps last n word x ↔ Derives d few few_starts steps last (number n) word x

abbrev pub AnyDerivationsAreRenamed : {W : Type 0} → Domain W → Type 0
AnyDerivationsAreRenamed {W} d = (number old_number : ℕ → ℕ) (rules few : List (Rule W)) (starts few_starts : List (Start W))
    → AreRenamed number old_number rules few starts few_starts → (n : ℕ) → old_number (number n) ≡ n → (steps : List BaseStep) (last : ℕ) (x : W)
    → DerivesAny d rules starts steps last n x ↔ DerivesAny d few few_starts steps last (number n) x

-- each head has one number, without gaps; and each of so many nodes has that of its head
pub record AreNumbered {W : Type 0} (d : Domain W) (cells : List (Cell W)) (heads numbers : List ℕ) : Type 0 where
  pub many : length numbers ≡ length cells
  pub few : length heads ≤ length cells
  pub each : (n number : ℕ) → slice_get numbers n ≡ Some number → slice_get heads number ≡ Some (head_at d cells n)
  pub are_heads : (number head : ℕ) → slice_get heads number ≡ Some head → head_at d cells head ≡ head
  pub apart : IsApart heads

-- the heads, with one node more where that is its own
abbrev pub with_head : {W : Type 0} → Domain W → List (Cell W) → List ℕ → ℕ → List ℕ
with_head d cells heads n = cond (head_at d cells n == n) (heads ++ n ∷ []) heads

-- the heads before a node have their numbers
pub record AreHeadsTo {W : Type 0} (d : Domain W) (cells : List (Cell W)) (below : ℕ) (heads numbers : List ℕ) : Type 0 where
  pub many : length numbers ≡ below
  pub few : length heads ≤ below
  pub each : (n number : ℕ) → slice_get numbers n ≡ Some number → head_at d cells n ≡ n → slice_get heads number ≡ Some n
  pub are_heads : (number head : ℕ) → slice_get heads number ≡ Some head → (head_at d cells head ≡ head) × (head < below)
  pub apart : IsApart heads

-- the nodes before one have the numbers of their heads
pub record HaveNumbersTo {W : Type 0} (d : Domain W) (cells : List (Cell W)) (own : List ℕ) (below : ℕ) (numbers : List ℕ) : Type 0 where
  pub many : length numbers ≡ below
  pub each : (n number : ℕ) → slice_get numbers n ≡ Some number → slice_get own (head_at d cells n) ≡ Some number

-- the number of a node; one that the list doesn't have keeps its own
abbrev pub number_in : List ℕ → ℕ → ℕ
number_in numbers n = get_or numbers n n
