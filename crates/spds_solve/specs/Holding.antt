-- The sites of which a node may hold objects.
use Rattle.std.specs.Prelude.{◌≡◌, ◌↔◌, ◌⊎◌, ℕ, List, Some, slice_get}
use Rattle.demand_set.specs.Demands.{DemandParts}
use Rattle.lists.specs.Lists.{Has}
use Rattle.link_rules.specs.Linked.{LinkedProgram}
use Rattle.link_sites.specs.declared.site.Site.{Site}
use Rattle.spds_rules.specs.declared.node.Node.{Node}
use Rattle.spds_rules.specs.Answers.{IsAnswered}
use Rattle.spds_rules.specs.Demand.{Asked}
use Rattle.spds_solve.specs.Solved.{IsSolved, SolvedParts}

-- these are the sites of which the node may hold objects
abbrev pub AreHolding : SolvedParts → ℕ → List ℕ → Type 0
AreHolding s node sites = (p : LinkedProgram) (q : Asked) (d : DemandParts) (n : Node) (site : ℕ) (o : Site) → IsSolved p q d s → slice_get d.nodes node ≡ Some n
    → slice_get d.sites site ≡ Some o → Has sites site ↔ IsAnswered p q n o

-- those before, and the site if the node may hold an object of it
abbrev pub IsAskedAt : SolvedParts → ℕ → ℕ → List ℕ → List ℕ → Type 0
IsAskedAt s node site old new = (p : LinkedProgram) (q : Asked) (d : DemandParts) (n : Node) (other : ℕ) (o : Site) → IsSolved p q d s → slice_get d.nodes node ≡ Some n
    → slice_get d.sites other ≡ Some o → Has new other ↔ (Has old other ⊎ ((other ≡ site) × IsAnswered p q n o))
