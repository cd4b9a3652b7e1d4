-- What an analysis of a program under a protocol answers.
use Rattle.std.specs.Prelude.{ℕ, ◌<◌, length, map}
use Rattle.demand_set.specs.Walks.{HasAtMost}
use Rattle.link_rules.specs.Linked.{LinkedProgram}
use Rattle.link_sites.specs.Places.{IsPlace}
use Rattle.link_sites.specs.Sites.{IsSite}
use Rattle.spds_rules.specs.Demand.{Asked, Demand}
use Rattle.lists.specs.Lists.{Counts, HasMore}
use Rattle.site_events.specs.EventStatements.{IsQuery}
use Rattle.track_rules.specs.Protocols.{ProtocolParts}
use Rattle.track_systems.specs.Findings.{AreFindings}
use Rattle.track_verdicts.specs.declared.verdict.Finding.{Finding}
use Rattle.track_verdicts.specs.declared.verdict.Verdict.{Verdict}
use Rattle.track_verdicts.specs.Found.{found_of}

-- the findings of the protocol's one query, all of them, in their order, and how many nodes it demands
pub record IsVerdict (p : LinkedProgram) (k : ProtocolParts) (verdict : Verdict) : Type 0 where
  pub q : Asked
  pub query : IsQuery p k q
  pub findings : AreFindings p k q (map found_of verdict.findings)
  pub size : Counts (Demand p q) verdict.demanded

-- what telling of a finding takes: its site and its place are of the program, its state and its event of the protocol
pub record IsTellable (p : LinkedProgram) (k : ProtocolParts) (f : Finding) : Type 0 where
  pub site : IsSite p f.site
  pub place : IsPlace p f.place
  pub state : f.state < length k.states
  pub event : f.event < length k.events

-- the query demands more nodes than the budget allows
abbrev pub IsBeyond : LinkedProgram → ProtocolParts → ℕ → Type 0
IsBeyond p k budget = (q : Asked) × IsQuery p k q × HasMore (Demand p q) budget

-- it demands no more
abbrev pub IsWithin : LinkedProgram → ProtocolParts → ℕ → Type 0
IsWithin p k budget = (q : Asked) × IsQuery p k q × HasAtMost (Demand p q) budget
