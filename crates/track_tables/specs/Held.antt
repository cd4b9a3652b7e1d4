-- At which places of a list of nodes objects of a site may be.
use Rattle.std.specs.Prelude.{◌≡◌, ◌<◌, ℕ, List, Some, eqb, length, slice_get}
use Rattle.demand_set.specs.Demands.{DemandParts}
use Rattle.lists.specs.Lists.{Has}
use Rattle.lists.specs.Groups.{Grouped, found_at}
use Rattle.link_indexes.specs.Rows.{AreTheIndexes}
use Rattle.link_rules.specs.Linked.{LinkedProgram}
use Rattle.link_sites.specs.declared.site.Site.{Site}
use Rattle.spds_rules.specs.declared.node.Node.{Node}
use Rattle.spds_rules.specs.Answers.{IsAnswered}
use Rattle.spds_rules.specs.Demand.{Asked}

-- the numbers are those of nodes of the demand
abbrev pub AreOfDemand : DemandParts → List ℕ → Type 0
AreOfDemand d nodes = (number : ℕ) → Has nodes number → number < length d.nodes

module _ (p : LinkedProgram) (q : Asked) (d : DemandParts) where
  -- at the place in the list there is the number of a node that may hold an object of the site
  pub record IsHeldAt (a : Site) (nodes : List ℕ) (place : ℕ) : Type 0 where
    pub number : ℕ
    pub here : slice_get nodes place ≡ Some number
    pub node : Node
    pub there : slice_get d.nodes number ≡ Some node
    pub answered : IsAnswered p q node a

  -- exactly these places, in order
  abbrev pub AreHeldAt : Site → List ℕ → List ℕ → Type 0
  AreHeldAt a nodes places = AreTheIndexes (IsHeldAt a nodes) places

  -- for each site of the demand
  abbrev pub AreHeldIn : List ℕ → Grouped ℕ ℕ → Type 0
  AreHeldIn nodes held = (site : ℕ) (a : Site) → slice_get d.sites site ≡ Some a → AreHeldAt a nodes (found_at eqb held site)
