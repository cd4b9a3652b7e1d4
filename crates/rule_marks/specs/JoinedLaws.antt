-- What a system derives, it derives also over joining nodes.
use Rattle.std.specs.Prelude.{◌≡◌, ◌↔◌, ◌<◌, ◌≤◌, ℕ, List}
use Rattle.auto_table.specs.declared.rule.Rule.{Rule}
use Rattle.auto_table.specs.declared.rule.Rule.TheVariants.{Flow}
use Rattle.lists.specs.Lists.{Has}
use Rattle.post_star.specs.declared.bases.Start.{Start}
use Rattle.post_star.specs.declared.bases.BaseStep.{BaseStep}
use Rattle.post_star.specs.Derivations.{Derives, DerivesAny, IsAnyValue, IsValue}
use Rattle.weight_laws.specs.Law.{Domain}
use Rattle.rule_marks.specs.Joined.{IsJoined}

-- a node that isn't a joining node has the same derivations in both systems
abbrev pub DerivationsAreJoined : {W : Type 0} → Domain W → Type 0
DerivationsAreJoined {W} d = (count : ℕ) (starts : List (Start W)) (rules joined : List (Rule W)) → IsJoined d count starts rules joined
    → (steps : List BaseStep) (last n : ℕ) (word : List ℕ) (x : W) → n < count
    → Derives d rules starts steps last n word x ↔ Derives d joined starts steps last n word x

-- a derivation at some node, over a flow from there to the joining node
pub record IsJoinedFrom {W : Type 0} (d : Domain W) (rules joined : List (Rule W)) (starts : List (Start W)) (steps : List BaseStep) (last join : ℕ) (word : List ℕ) (x : W) : Type 0 where
  pub before : ℕ
  pub first : W
  pub weight : W
  pub flow : Has joined (Flow before join weight)
  pub derived : Derives d rules starts steps last before word first
  pub is : x ≡ d.extend first weight

-- a joining node has those of the nodes from which flows lead there
abbrev pub JoiningNodesHaveAll : {W : Type 0} → Domain W → Type 0
JoiningNodesHaveAll {W} d = (count : ℕ) (starts : List (Start W)) (rules joined : List (Rule W)) → IsJoined d count starts rules joined
    → (steps : List BaseStep) (last join : ℕ) (word : List ℕ) (x : W) → count ≤ join
    → Derives d joined starts steps last join word x ↔ IsJoinedFrom d rules joined starts steps last join word x

-- so have derivations with any word
abbrev pub AnyDerivationsAreJoined : {W : Type 0} → Domain W → Type 0
AnyDerivationsAreJoined {W} d = (count : ℕ) (starts : List (Start W)) (rules joined : List (Rule W)) → IsJoined d count starts rules joined
    → (steps : List BaseStep) (last n : ℕ) (x : W) → n < count → DerivesAny d rules starts steps last n x ↔ DerivesAny d joined starts steps last n x

-- and so have both the same values
abbrev pub ValuesAreJoined : {W : Type 0} → Domain W → Type 0
ValuesAreJoined {W} d = (count : ℕ) (starts : List (Start W)) (rules joined : List (Rule W)) → IsJoined d count starts rules joined
    → (steps : List BaseStep) (last n : ℕ) (word : List ℕ) (v : W) → n < count
    → IsValue d rules starts steps last n word v ↔ IsValue d joined starts steps last n word v

abbrev pub AnyValuesAreJoined : {W : Type 0} → Domain W → Type 0
AnyValuesAreJoined {W} d = (count : ℕ) (starts : List (Start W)) (rules joined : List (Rule W)) → IsJoined d count starts rules joined
    → (steps : List BaseStep) (last n : ℕ) (v : W) → n < count → IsAnyValue d rules starts steps last n v ↔ IsAnyValue d joined starts steps last n v
