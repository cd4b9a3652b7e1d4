-- What the systems derive stands within the demand of the query, whatever the meets.
use Rattle.std.proofs.Common.{ℕ, List}
use Rattle.link_rules.specs.Linked.{LinkedProgram}
use Rattle.link_sites.specs.declared.place.Place.{Place}
use Rattle.link_sites.specs.declared.site.Site.{Site}
use Rattle.spds_rules.specs.declared.node.Node.{Node}
use Rattle.spds_rules.specs.declared.store.StoreAt.{StoreAt}
use Rattle.spds_rules.specs.Demand.{Asked, Demand, SiteIn, StoreIn}
use Rattle.spds_rules.specs.Nodes.{IsNode}
use Rattle.spds_rules.specs.Systems.{InCalls, InFields, MayStore, Meets}
use Rattle.spds_laws.specs.Starts.{IsOpen}
use Rattle.spds_laws.proofs.Rounds.{meets_stored}

module _ (p : LinkedProgram) (q : Asked) (Meet : Site → Site → StoreAt → Type 0) (o : Site) where
  -- each node is one of the program and is demanded
  pub fields_within : {n : Node} {word : List ℕ} → InFields p q Meet o n word → IsNode p n × Demand p q n
  fields_within (InFields.start st) = (st.0.0, st.1)
  fields_within (InFields.keep e k c) = (e.0.to, e.1)
  fields_within (InFields.load e c) = (e.0.to, e.1)
  fields_within (InFields.store m st c) = (st.0.0, st.1)

  pub calls_within_demand : {n : Node} {string : List Place} → InCalls p q Meet o n string → IsNode p n × Demand p q n
  calls_within_demand (InCalls.start st is) = (st.0.0, st.1)
  calls_within_demand (InCalls.keep e k c) = (e.0.to, e.1)
  calls_within_demand (InCalls.push e c) = (e.0.to, e.1)
  calls_within_demand (InCalls.pop e c) = (e.0.to, e.1)
  calls_within_demand (InCalls.jump e c is) = (e.0.to, e.1)
  calls_within_demand (InCalls.store m st c is) = (st.0.0, st.1)

  pub open_within : {n : Node} → IsOpen p q Meet o n → IsNode p n × Demand p q n
  open_within (IsOpen.own st) = (st.0.0, st.1)
  open_within (IsOpen.jump e c) = (e.0.to, e.1)
  open_within (IsOpen.store m st c) = (st.0.0, st.1)

  -- the site has a start node that is demanded
  pub fields_site : {n : Node} {word : List ℕ} → InFields p q Meet o n word → SiteIn p q o
  fields_site (InFields.start {n} st) = (n, st)
  fields_site (InFields.keep e k c) = fields_site c
  fields_site (InFields.load e c) = fields_site c
  fields_site (InFields.store m st c) = fields_site c

  pub calls_site : {n : Node} {string : List Place} → InCalls p q Meet o n string → SiteIn p q o
  calls_site (InCalls.start {n} st is) = (n, st)
  calls_site (InCalls.keep e k c) = calls_site c
  calls_site (InCalls.push e c) = calls_site c
  calls_site (InCalls.pop e c) = calls_site c
  calls_site (InCalls.jump e c is) = calls_site c
  calls_site (InCalls.store m st c is) = calls_site c

-- a triple that may be stored has sites of the demand and a store of it
pub may_store_within : (p : LinkedProgram) (q : Asked) (Meet : Site → Site → StoreAt → Type 0) (o base : Site) (s : StoreAt)
    → MayStore p q Meet o base s → SiteIn p q o × SiteIn p q base × StoreIn p q s
may_store_within p q Meet o base s m = (calls_site p q Meet o m.1.at_arg, calls_site p q Meet base m.1.at_base, m.1.store)

-- so has one that is met
pub meets_within : (p : LinkedProgram) (q : Asked) (o base : Site) (s : StoreAt) → Meets p q o base s → SiteIn p q o × SiteIn p q base × StoreIn p q s
meets_within p q o base s m = may_store_within p q (Meets p q) o base s (meets_stored p q o base s m)
