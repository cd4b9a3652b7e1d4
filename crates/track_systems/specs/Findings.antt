-- What an analysis under a protocol finds.
use Rattle.std.specs.Prelude.{◌≡◌, ◌↔◌, ℕ, ◌<◌, ◌⊎◌, List, AllPairs}
use Rattle.lists.specs.Lists.{Has}
use Rattle.link_rules.specs.Linked.{LinkedProgram}
use Rattle.link_sites.specs.declared.place.Place.{Place}
use Rattle.link_sites.specs.declared.site.Site.{Site}
use Rattle.link_sites.specs.Places.{ComesBefore, IsSameStatement}
use Rattle.link_sites.specs.Sites.{Precedes}
use Rattle.spds_rules.specs.declared.node.Var.{Var}
use Rattle.spds_rules.specs.Answers.{IsAnswered}
use Rattle.spds_rules.specs.Demand.{Asked}
use Rattle.spds_rules.specs.Nodes.{at}
use Rattle.track_rules.specs.Protocols.{HasRow, ProtocolParts}
use Rattle.track_systems.specs.Events.{IsEventOn, IsTrackedSite}
use Rattle.track_systems.specs.Track.{Tracks}

-- a finding: the event at the place may come on an object of the site in the state, and no row allows it there. The receiver may hold an object of the
-- site, which may be in the state there, under some call string
pub record IsFinding (p : LinkedProgram) (k : ProtocolParts) (q : Asked) (a : Site) (place : Place) (event i : ℕ) : Type 0 where
  pub tracked : IsTrackedSite p k a
  pub receiver : Var
  pub is_event : IsEventOn p k place event receiver
  pub answered : IsAnswered p q (at place receiver) a
  pub string : List Place
  pub tracks : Tracks p k q a (at place receiver) string i
  pub no_row : (j : ℕ) → HasRow k i event j → ⊥

-- a finding, with what it names
pub record Found : Type 0 where
  pub site : Site
  pub place : Place
  pub event : ℕ
  pub state : ℕ

-- the same, of a finding as it is told
abbrev pub IsFound : LinkedProgram → ProtocolParts → Asked → Found → Type 0
IsFound p k q f = IsFinding p k q f.site f.place f.event f.state

-- the order in which findings are told: by site, at one site by statement, and at one statement by state
abbrev pub IsToldBefore : LinkedProgram → Found → Found → Type 0
IsToldBefore p a b = Precedes p a.site b.site
    ⊎ ((a.site ≡ b.site) × (ComesBefore a.place b.place ⊎ (IsSameStatement a.place b.place × (a.state < b.state))))

-- the findings, all of them, in their order
pub record AreFindings (p : LinkedProgram) (k : ProtocolParts) (q : Asked) (findings : List Found) : Type 0 where
  pub each : (f : Found) → Has findings f ↔ IsFound p k q f
  pub ordered : AllPairs (IsToldBefore p) findings

-- there is none
abbrev pub HasNoFinding : LinkedProgram → ProtocolParts → Asked → Type 0
HasNoFinding p k q = (a : Site) (place : Place) (event i : ℕ) → IsFinding p k q a place event i → ⊥
