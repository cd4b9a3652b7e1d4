-- Findings of a site, at an event statement, and by the states in which no row allows the event.
use Rattle.std.specs.Prelude.{◌≡◌, ℕ, ◌<◌, length}
use Rattle.link_rules.specs.Linked.{LinkedProgram}
use Rattle.link_sites.specs.declared.site.Site.{Site}
use Rattle.spds_rules.specs.Demand.{Asked}
use Rattle.site_events.specs.declared.event_statement.EventStatement.{EventStatement}
use Rattle.track_rules.specs.Protocols.{HasRow, ProtocolParts}
use Rattle.track_systems.specs.Findings.{IsFinding, IsToldBefore}
use Rattle.track_verdicts.specs.declared.verdict.Finding.{Finding}
use Rattle.track_verdicts.specs.Found.{found_of}
use Rattle.weight_laws.specs.declared.rel.Rel.{Rel}
use Rattle.weight_laws.specs.Rel.{Relates}

-- the order in which findings are told
abbrev pub IsKeptBefore : LinkedProgram → Finding → Finding → Type 0
IsKeptBefore p a b = IsToldBefore p (found_of a) (found_of b)

-- the finding is that of the event statement, on objects of the site in a state to which the relation leads state 0, and in which no row allows the event
pub record IsBarred (k : ProtocolParts) (a : Site) (s : EventStatement) (relation : Rel) (f : Finding) : Type 0 where
  pub site : f.site ≡ a
  pub place : f.place ≡ s.place
  pub event : f.event ≡ s.event
  pub below : f.state < length k.states
  pub leads : Relates relation 0 f.state
  pub no_row : (to : ℕ) → HasRow k f.state f.event to → ⊥

-- it is a finding
abbrev pub IsOneFinding : LinkedProgram → ProtocolParts → Asked → Finding → Type 0
IsOneFinding p k q f = IsFinding p k q f.site f.place f.event f.state

-- one of the site
abbrev pub IsFindingOf : LinkedProgram → ProtocolParts → Asked → Site → Finding → Type 0
IsFindingOf p k q a f = IsOneFinding p k q f × (f.site ≡ a)

-- one of the site, at the event statement
pub record IsFindingAt (p : LinkedProgram) (k : ProtocolParts) (q : Asked) (a : Site) (s : EventStatement) (f : Finding) : Type 0 where
  pub is_one : IsOneFinding p k q f
  pub site : f.site ≡ a
  pub place : f.place ≡ s.place
  pub event : f.event ≡ s.event
