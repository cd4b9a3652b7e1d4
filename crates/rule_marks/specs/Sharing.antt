-- Rules that nodes share: of a group of nodes that have the same rules, one leads, and its rules go behind a joining node.
use Rattle.std.specs.Prelude.{◌≡◌, ◌↔◌, ◌⊎◌, ◌<◌, ◌+◌, ◌++◌, ◌∷◌, [], ℕ, Bool, true, false, List, get_or}
use Rattle.auto_table.specs.declared.rule.Rule.{Rule}
use Rattle.auto_table.specs.declared.rule.Rule.TheVariants.{Flow, Push, Pop}
use Rattle.lists.specs.Lists.{Has}
use Rattle.post_star.specs.declared.bases.Start.{Start}
use Rattle.post_star.specs.Works.{IsTold}
use Rattle.weight_laws.specs.Law.{Domain}
use Rattle.rule_marks.specs.Joined.{IsJoined, source, target}

-- the rule from another node
abbrev pub at_node : {W : Type 0} → ℕ → Rule W → Rule W
at_node n (Flow from to weight) = Flow n to weight
at_node n (Push from to mark weight) = Push n to mark weight
at_node n (Pop from mark to weight) = Pop n mark to weight

-- Nodes that have one leader have the same of the shared rules, and so does the leader: these are whole products of nodes and rules.
pub record AreShared {W : Type 0} (leader : ℕ → ℕ) (shared : List (Rule W)) : Type 0 where
  pub same : (q r : Rule W) → Has shared q → Has shared r → leader (source q) ≡ leader (source r) → Has shared (at_node (source r) q)
  pub led : (q : Rule W) → Has shared q → Has shared (at_node (leader (source q)) q)
  pub leads_itself : (q : Rule W) → Has shared q → leader (leader (source q)) ≡ leader (source q)

-- A rule of the joined system: one of the others; a flow from a node with shared rules to the joining node of its leader; or a shared rule of a leader, from
-- its joining node.
pub data IsOfJoined {W : Type 0} (d : Domain W) (count : ℕ) (leader : ℕ → ℕ) (others shared : List (Rule W)) (r : Rule W) : Type 0 where
  other : Has others r → IsOfJoined d count leader others shared r
  enters : (q : Rule W) → Has shared q → r ≡ Flow (source q) (count + leader (source q)) d.one → IsOfJoined d count leader others shared r
  leaves : (q : Rule W) → Has shared q → leader (source q) ≡ source q → r ≡ at_node (count + source q) q → IsOfJoined d count leader others shared r

-- the rules lead between nodes below the count
abbrev pub AreBelow : {W : Type 0} → ℕ → List (Rule W) → Type 0
AreBelow {W} count rules = (r : Rule W) → Has rules r → (source r < count) × (target r < count)

-- what is made so is the joined system
pub record IsSharing {W : Type 0} (d : Domain W) (count : ℕ) (leader : ℕ → ℕ) (starts : List (Start W)) (others shared joined : List (Rule W)) : Type 0 where
  pub told : IsTold d (others ++ shared) starts
  pub others_below : AreBelow count others
  pub shared_below : AreBelow count shared
  pub starts_below : (s : Start W) → Has starts s → s.node < count
  pub are_shared : AreShared leader shared
  pub joined_are : (r : Rule W) → Has joined r ↔ IsOfJoined d count leader others shared r

abbrev pub SharedRulesAreJoined : {W : Type 0} → Domain W → Type 0
SharedRulesAreJoined {W} d = (count : ℕ) (leader : ℕ → ℕ) (starts : List (Start W)) (others shared joined : List (Rule W))
    → IsSharing d count leader starts others shared joined → IsJoined d count starts (others ++ shared) joined

-- the leader of a node; a node that the list doesn't have leads itself
abbrev pub leader_in : List ℕ → ℕ → ℕ
leader_in leaders n = get_or leaders n n

-- the list has one more than it had, and no others
abbrev pub IsAdded : {X : Type 0} → List X → X → List X → Type 0
IsAdded {X} old a new = (x : X) → Has new x ↔ (Has old x ⊎ (x ≡ a))

-- or has it where the test says so
abbrev pub IsAddedIf : {X : Type 0} → Bool → List X → X → List X → Type 0
IsAddedIf {X} test old a new = (x : X) → Has new x ↔ (Has old x ⊎ ((test ≡ true) × (x ≡ a)))

-- the shared rules so far are joined, and flagged nodes have their flow
pub record IsJoining {W : Type 0} (d : Domain W) (count : ℕ) (leader : ℕ → ℕ) (others shared made : List (Rule W)) (flags : List Bool) : Type 0 where
  pub joined_are : (r : Rule W) → Has made r ↔ IsOfJoined d count leader others shared r
  pub entered : (n : ℕ) → get_or flags n false ≡ true → Has made (Flow n (count + leader n) d.one)

-- one shared rule more is joined
abbrev pub JoinsOne : {W : Type 0} → Domain W → ℕ → (ℕ → ℕ) → Rule W → List (Rule W) → List Bool → List (Rule W) → List Bool → Type 0
JoinsOne {W} d count leader q old flags new more =
    (others shared : List (Rule W)) → IsJoining d count leader others shared old flags → IsJoining d count leader others (shared ++ q ∷ []) new more
