-- What the numbers in rules and words stand for.
use Rattle.std.specs.Prelude.{List}
use Rattle.link_rules.specs.Linked.{LinkedProgram}
use Rattle.link_sites.specs.declared.place.Place.{Place}
use Rattle.link_sites.specs.declared.site.Site.{Site}
use Rattle.call_side.specs.Calls.{AreTheCalls}
use Rattle.spds_rules.specs.declared.node.Node.{Node}
use Rattle.spds_rules.specs.declared.store.StoreAt.{StoreAt}
use Rattle.spds_rules.specs.Demand.{Asked, Demand, SiteIn, StoreIn}
use Rattle.lists.specs.Lists.{AreAll}

-- nodes, sites, stores and calls: the number of one is its place in its list
pub record Names : Type 0 where
  pub nodes : List Node
  pub sites : List Site
  pub stores : List StoreAt
  pub calls : List Place

-- they are the nodes, the sites and the stores that the query demands, and the calls of the program
pub record AreNames (p : LinkedProgram) (q : Asked) (names : Names) : Type 0 where
  pub nodes : AreAll (Demand p q) names.nodes
  pub sites : AreAll (SiteIn p q) names.sites
  pub stores : AreAll (StoreIn p q) names.stores
  pub calls : AreTheCalls p names.calls
