use Rattle.std.proofs.Common.{take}
use Rattle.link_sites.specs.declared.site.Site.{Site}
use Rattle.spds_rules.specs.Demand.{Asked}
use Rattle.type_track.specs.Findings.{IsKeptBefore}
use Rattle.type_track.specs.Growing.{GrowsBy}
use Rattle.type_track.specs.Searches.{IsTrackedIn}
use Rattle.type_track.proofs.Searching.{IsFindingAmong}
use Rattle.type_track.proofs.search.add_all_at.Given as goal

-- those at the first of the places
abbrev pub invariant-loop-place : goal.invariant-loop-place
invariant-loop-place l = (q : Asked) (a : Site) → IsTrackedIn q a l.search l.number l.states
    → GrowsBy (IsKeptBefore l.search.given.linked.now)
    (IsFindingAmong l.search.given.linked.now l.search.protocol.now q a l.search.receivers.now (take l.place-index l.place-items))
    l.initial.findings.items l.findings.items
