-- The starts of a site.
use Rattle.std.specs.Prelude.{◌≡◌, ◌↔◌, ℕ, ◌<◌, []}
use Rattle.demand_set.specs.Demands.{DemandParts}
use Rattle.lists.specs.Lists.{Has}
use Rattle.link_rules.specs.Linked.{LinkedProgram}
use Rattle.link_sites.specs.declared.site.Site.{Site}
use Rattle.post_star.specs.declared.bases.Start.{Start}
use Rattle.spds_rules.specs.Demand.{Asked}
use Rattle.track_rules.specs.Protocols.{ProtocolParts}
use Rattle.track_systems.specs.Track.{IsMade}
use Rattle.track_systems.specs.Weights.{Anywhere, Sends}
use Rattle.track_tables.specs.declared.growth.Growth.{Growth}
use Rattle.track_tables.specs.declared.parts.TrackParts.{TrackParts}
use Rattle.track_tables.specs.Making.{AreOpenFrom}
use Rattle.track_tables.specs.Systems.{HasStart, IsBeginning}
use Rattle.weight_laws.specs.declared.rel.Rel.{Rel}
use Rattle.weight_laws.specs.Rel.{Relates}

-- the weight leads state 0 to itself, where objects of the site are made, and for constants to what events anywhere lead it to
pub record IsFirstWeight (p : LinkedProgram) (k : ProtocolParts) (q : Asked) (a : Site) (weight : Rel) : Type 0 where
  pub made : IsMade a → (i : ℕ) → i < 16 → Relates weight 0 i ↔ (i ≡ 0)
  pub constant : (IsMade a → ⊥) → (i : ℕ) → i < 16 → Relates weight 0 i ↔ Sends p k q a Anywhere 0 i

-- the starts of the site are there, and no rules
pub record IsBegun (p : LinkedProgram) (k : ProtocolParts) (q : Asked) (a : Site) (d : DemandParts) (parts : TrackParts) (growth : Growth) : Type 0 where
  pub steps : growth.work.steps ≡ parts.strings.value.steps
  pub last : growth.work.last ≡ parts.strings.value.last
  pub none : growth.work.rules ≡ []
  pub starts : (method number i : ℕ) → i < 16 → HasStart growth.work.starts method number i ↔ IsBeginning p k q a d.nodes method number i
  pub within : (s : Start Rel) → Has growth.work.starts s → Has growth.reached.keys s.node
  pub opened : (s : Start Rel) → Has growth.work.starts s → AreOpenFrom growth.work.steps s.base growth.work.last growth.marks.keys
