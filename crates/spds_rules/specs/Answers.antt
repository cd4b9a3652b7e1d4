-- What a query answers.
use Rattle.std.specs.Prelude.{◌↔◌, List, [], AllPairs}
use Rattle.lists.specs.Lists.{Has}
use Rattle.link_rules.specs.Linked.{LinkedProgram}
use Rattle.link_sites.specs.declared.place.Place.{Place}
use Rattle.link_sites.specs.declared.site.Site.{Site}
use Rattle.link_sites.specs.Sites.{Precedes}
use Rattle.spds_rules.specs.declared.node.Node.{Node}
use Rattle.spds_rules.specs.Demand.{Asked}
use Rattle.spds_rules.specs.Systems.{Calls, Fields}

-- the node may hold an object of the site: both systems have it there, each by itself
abbrev pub IsAnswered : LinkedProgram → Asked → Node → Site → Type 0
IsAnswered p q n o = Fields p q o n [] × ((string : List Place) × Calls p q o n string)

-- the sites with the fact, in the order in which they are printed
pub record AreSites (p : LinkedProgram) (P : Site → Type 0) (sites : List Site) : Type 0 where
  pub each : (o : Site) → Has sites o ↔ P o
  pub ordered : AllPairs (Precedes p) sites

-- the answer of a node
abbrev pub AreAnswered : LinkedProgram → Asked → Node → List Site → Type 0
AreAnswered p q n sites = AreSites p (IsAnswered p q n) sites

-- both nodes may hold an object of the site, under one call string
abbrev pub IsShared : LinkedProgram → Asked → Node → Node → Site → Type 0
IsShared p q first second o = IsAnswered p q first o × IsAnswered p q second o
    × ((string : List Place) × Calls p q o first string × Calls p q o second string)
