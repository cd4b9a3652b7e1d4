-- How findings are searched for.
use Rattle.std.specs.Prelude.{◌≡◌, ℕ, ◌<◌, ◌^◌, List, [], Some, length, slice_get}
use Rattle.std.specs.Global.{Vec}
use Rattle.demand_set.specs.Demands.{IsDemandOf}
use Rattle.track_tables.specs.Held.{AreHeldIn}
use Rattle.link_rules.specs.WellLinked.{IsWellLinked}
use Rattle.link_sites.specs.declared.site.Site.{Site}
use Rattle.piece_join.specs.Brought.{AllBecome}
use Rattle.auto_table.specs.Cells.{Cells}
use Rattle.site_events.specs.Events.{AreEventsIn}
use Rattle.spds_rules.specs.Demand.{Asked}
use Rattle.site_events.specs.declared.event_statement.EventStatement.{EventStatement}
use Rattle.site_events.specs.EventStatements.{AreEventStatements}
use Rattle.track_rules.specs.Protocols.{ProtocolParts}
use Rattle.track_systems.specs.Events.{IsTrackedSite}
use Rattle.track_tables.specs.declared.given.SolvedDemand.{SolvedDemand}
use Rattle.track_tables.specs.Making.{AreLoadedIn, AreTrackParts}
use Rattle.track_tables.specs.Systems.{IsTrackTable}
use Rattle.weight_laws.specs.declared.rel.Rel.{Rel}
use Rattle.type_track.specs.declared.search.Search.{Search}
use Rattle.track_verdicts.specs.declared.verdict.Finding.{Finding}
use Rattle.type_track.specs.Findings.{IsFindingOf, IsKeptBefore}
use Rattle.type_track.specs.Growing.{GrowsBy}
use Rattle.type_track.specs.Receivers.{AreReceivers, numbers_of}

-- what the query demands is solved, and the protocol's class is one of the program
pub record IsGiven (k : ProtocolParts) (q : Asked) (g : SolvedDemand) : Type 0 where
  pub well : IsWellLinked g.linked.now
  pub class : k.class < length g.linked.now.classes
  pub demand : IsDemandOf g.linked.now q g.demand.now
  pub few : length g.demand.now.sites < 2 ^ 32
  pub parts : AreTrackParts g.linked.now g.demand.now g.parts.now
  pub loaded : AreLoadedIn g.linked.now q g.demand.now g.parts.now g.loaded.now

-- the search is over a solved demand, with all event statements of the protocol
pub record IsPosed (q : Asked) (s : Search) : Type 0 where
  pub given : IsGiven s.protocol.now q s.given
  pub statements : List EventStatement
  pub events : AreEventsIn s.given.linked.now s.protocol.now statements s.events.now
  pub are_events : AreEventStatements s.given.linked.now s.protocol.now statements
  pub receivers : AreReceivers s.given.demand.now.nodes statements s.receivers.now
  pub held : AreHeldIn s.given.linked.now q s.given.demand.now (numbers_of s.receivers.now) s.held.now

-- the site has this number
abbrev pub IsSiteAt : Search → ℕ → Site → Type 0
IsSiteAt s number a = slice_get s.given.demand.now.sites number ≡ Some a

-- the protocol speaks of the objects of the site with this number, and this is the table of its system
pub record IsTrackedIn (q : Asked) (a : Site) (s : Search) (number : ℕ) (table : Cells Rel) : Type 0 where
  pub posed : IsPosed q s
  pub there : IsSiteAt s number a
  pub tracked : IsTrackedSite s.given.linked.now s.protocol.now a
  pub table_is : IsTrackTable s.given.linked.now s.protocol.now q a s.given.demand.now table

-- the search goes over the site with this number
pub record MaySearch (s : Search) (number : ℕ) : Type 0 where
  pub query : Asked
  pub posed : IsPosed query s
  pub within : number < length s.given.demand.now.sites

-- exactly the findings on objects of the site with this number were put behind, in order
abbrev pub AreFoundAt : Search → ℕ → List Finding → List Finding → Type 0
AreFoundAt s number old new = (q : Asked) (a : Site) → IsPosed q s → IsSiteAt s number a
    → GrowsBy (IsKeptBefore s.given.linked.now) (IsFindingOf s.given.linked.now s.protocol.now q a) old new

-- so many lists without an element
pub record AreBlank (count : ℕ) (lists : List (Vec Finding)) : Type 0 where
  pub count_is : length lists ≡ count
  pub none : (i : ℕ) (list : Vec Finding) → slice_get lists i ≡ Some list → list.items ≡ []

-- each site was searched, for its list
pub record AreSearched (s : Search) (old new : List (Vec Finding)) : Type 0 where
  pub count : length new ≡ length old
  pub each : AllBecome (λ number before after. AreFoundAt s number before.items after.items) 0 old new
