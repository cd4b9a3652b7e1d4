-- Joining nodes of a pushdown system. Where each of some nodes has the same rules to follow, these are written once, behind a new node to which flows lead
-- from all of them: R + C rules in place of R times C.
use Rattle.std.specs.Prelude.{◌≡◌, ◌↔◌, ◌<◌, ◌≤◌, ℕ, List}
use Rattle.auto_table.specs.declared.rule.Rule.{Rule}
use Rattle.auto_table.specs.declared.rule.Rule.TheVariants.{Flow, Push, Pop}
use Rattle.lists.specs.Lists.{Has}
use Rattle.post_star.specs.declared.bases.Start.{Start}
use Rattle.post_star.specs.Works.{IsTold, weight_of}
use Rattle.weight_laws.specs.Law.{Domain}

-- the node from which a rule leads
abbrev pub source : {W : Type 0} → Rule W → ℕ
source (Flow from to weight) = from
source (Push from to mark weight) = from
source (Pop from mark to weight) = from

-- the node to which it leads
abbrev pub target : {W : Type 0} → Rule W → ℕ
target (Flow from to weight) = to
target (Push from to mark weight) = to
target (Pop from mark to weight) = to

-- the rule from another node, with a weight before its own: what a flow of that weight to its source, and then the rule, do together
abbrev pub led : {W : Type 0} → Domain W → ℕ → W → Rule W → Rule W
led d before first (Flow from to weight) = Flow before to (d.extend first weight)
led d before first (Push from to mark weight) = Push before to mark (d.extend first weight)
led d before first (Pop from mark to weight) = Pop before mark to (d.extend first weight)

-- The nodes from the count on are joining nodes. A rule of the joined system that leads past these is there, and so is a flow to a joining node together
-- with a rule from there.
pub data IsOver {W : Type 0} (d : Domain W) (count : ℕ) (joined : List (Rule W)) (r : Rule W) : Type 0 where
  past : Has joined r → source r < count → target r < count → IsOver d count joined r
  over : {before join : ℕ} {first : W} (q : Rule W) → Has joined (Flow before join first) → before < count → count ≤ join → Has joined q → source q ≡ join → target q < count
      → r ≡ led d before first q → IsOver d count joined r

-- Only flows lead to joining nodes, none of them from one, and the rules are what the joined system has past them and over them. A product of pops, each
-- from one of R to one of C, whose weights are a weight of the one before a weight of the other, is what R flows to a joining node and C pops from there
-- have over it.
pub record IsJoined {W : Type 0} (d : Domain W) (count : ℕ) (starts : List (Start W)) (rules joined : List (Rule W)) : Type 0 where
  pub told : IsTold d joined starts
  pub flows_alone : (r : Rule W) → Has joined r → count ≤ target r → (source r < count) × (r ≡ Flow (source r) (target r) (weight_of r))
  pub rules_are : (r : Rule W) → Has rules r ↔ IsOver d count joined r
  pub starts_below : (s : Start W) → Has starts s → s.node < count
