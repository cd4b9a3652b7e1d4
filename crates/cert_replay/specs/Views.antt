-- What a replay looks at.
use Rattle.std.specs.Prelude.{◌≡◌, ◌↔◌, map}
use Rattle.lists.specs.Lists.{Has}
use Rattle.demand_set.specs.Demands.{DemandParts, IsDemandOf}
use Rattle.spds_rules.specs.Demand.{about}
use Rattle.cert_replay.specs.declared.edges.Step.{Step}
use Rattle.cert_replay.specs.declared.view.Tables.{Tables}
use Rattle.cert_replay.specs.declared.view.View.{View}
use Rattle.cert_replay.specs.Joins.{HasStep, joined_by}

-- the tables of a demand: what is true of its edges, and the nodes that its stores join
pub record AreTables (d : DemandParts) (t : Tables) : Type 0 where
  pub steps : (s : Step) → Has t.steps.keys s ↔ HasStep d.edges s
  pub stores : t.stores.keys ≡ map joined_by d.stores

-- the demand is that of the node, and the tables are those of the demand
pub record IsView (v : View) : Type 0 where
  pub demand : IsDemandOf v.linked.now (about v.target) v.demand.now
  pub tables : AreTables v.demand.now v.tables.now
