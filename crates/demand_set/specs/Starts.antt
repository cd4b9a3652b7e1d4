-- What a demand keeps of sites and start nodes.
use Rattle.std.specs.Prelude.{◌≡◌, ℕ, ◌^◌, ◌<◌, List, [], ◌∷◌, ◌++◌, Some, length, slice_get}
use Rattle.lists.specs.Lists.{Has, IsApart, AreAll}
use Rattle.link_sites.specs.declared.site.Site.{Site}
use Rattle.spds_rules.specs.declared.node.Node.{Node}
use Rattle.spds_rules.specs.Nodes.{site_of}
use Rattle.demand_set.specs.Demands.{StartsAt}

-- one of the nodes is a start node of the site
abbrev pub HasStart : List Node → Site → Type 0
HasStart nodes site = (node : Node) × Has nodes node × (site_of node ≡ Some site)

-- for each site the numbers of its start nodes
pub record AreStarts (nodes : List Node) (sites : List Site) (starts : List (List ℕ)) : Type 0 where
  pub as_many : length starts ≡ length sites
  pub each : (i : ℕ) (site : Site) (numbers : List ℕ) → slice_get sites i ≡ Some site → slice_get starts i ≡ Some numbers → AreAll (StartsAt nodes site) numbers

-- what a demand keeps
pub record IsKept (nodes : List Node) (sites : List Site) (starts : List (List ℕ)) : Type 0 where
  pub nodes_apart : IsApart nodes
  pub sites_apart : IsApart sites
  pub few : length nodes < 2 ^ 32
  pub few_sites : length sites < 2 ^ 32
  pub are_starts : AreStarts nodes sites starts

-- the number of the node was put last in the list of its site, and no other list changed
pub record IsFiled (sites : List Site) (node : Node) (number : ℕ) (old new : List (List ℕ)) : Type 0 where
  pub as_many : length new ≡ length old
  pub own : (i : ℕ) (site : Site) (numbers : List ℕ) → slice_get sites i ≡ Some site → site_of node ≡ Some site → slice_get old i ≡ Some numbers
      → slice_get new i ≡ Some (numbers ++ number ∷ [])
  pub other : (i : ℕ) (site : Site) (numbers : List ℕ) → slice_get sites i ≡ Some site → (site_of node ≡ Some site → ⊥) → slice_get old i ≡ Some numbers
      → slice_get new i ≡ Some numbers
