-- Where the rules and the base steps that apply at a place are found.
use Rattle.std.specs.Prelude.{◌≡◌, ℕ, List}
use Rattle.auto_table.specs.declared.rule.Rule.{Rule}
use Rattle.auto_table.specs.declared.rule.Rule.TheVariants.{Flow, Push, Pop}
use Rattle.lists.specs.Lists.{Has}
use Rattle.post_star.specs.declared.bases.BaseStep.{BaseStep}
use Rattle.post_star.specs.declared.index.Index.{Index}
use Rattle.post_star.specs.declared.key.Key.{Key}
use Rattle.post_star.specs.declared.key.Key.TheVariants.{Node, Mark, Marked}
use Rattle.post_star.specs.Groups.{Groups, found_at}

-- the groups have elements of the list alone, and each of these under its keys
pub record AreUnder {X : Type 0} (xs : List X) (IsKey : X → Key → Type 0) (g : Groups X) : Type 0 where
  pub each : (key : Key) (x : X) → Has (found_at g key) x → Has xs x
  pub all : (key : Key) (x : X) → Has xs x → IsKey x key → Has (found_at g key) x

-- the node from which a rule leads
abbrev pub from_of : {W : Type 0} → Rule W → ℕ
from_of (Flow from to weight) = from
from_of (Push from to mark weight) = from
from_of (Pop from mark to weight) = from

-- a flow or a push that leads from the node
abbrev pub Stays : {W : Type 0} → Rule W → Key → Type 0
Stays (Flow from to weight) key = Node from ≡ key
Stays (Push from to mark weight) key = Node from ≡ key
Stays (Pop from mark to weight) key = ⊥

-- a pop that leads from the node
abbrev pub Pops : {W : Type 0} → Rule W → Key → Type 0
Pops (Flow from to weight) key = ⊥
Pops (Push from to mark weight) key = ⊥
Pops (Pop from mark to weight) key = Node from ≡ key

-- a pop with the node and the mark of the key
abbrev pub PopsMark : {W : Type 0} → Rule W → Key → Type 0
PopsMark (Flow from to weight) key = ⊥
PopsMark (Push from to mark weight) key = ⊥
PopsMark (Pop from mark to weight) key = Marked from mark ≡ key

-- a pop with the mark of the key, from any node
abbrev pub PopsAnywhere : {W : Type 0} → Rule W → Key → Type 0
PopsAnywhere (Flow from to weight) key = ⊥
PopsAnywhere (Push from to mark weight) key = ⊥
PopsAnywhere (Pop from mark to weight) key = Mark mark ≡ key

-- a base step with the base and the mark of the key
abbrev pub StepsFrom : BaseStep → Key → Type 0
StepsFrom s key = Marked s.base s.mark ≡ key

-- the index has the rules and the base steps
pub record IsIndex {W : Type 0} (rules : List (Rule W)) (steps : List BaseStep) (x : Index W) : Type 0 where
  pub stays : AreUnder rules Stays x.stays
  pub pops : AreUnder rules Pops x.pops
  pub marked : AreUnder rules PopsMark x.marked
  pub by_mark : AreUnder rules PopsAnywhere x.by_mark
  pub below : AreUnder steps StepsFrom x.below
