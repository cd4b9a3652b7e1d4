use Rattle.link_rules.specs.Linked.{LinkedProgram}
use Rattle.type_track.specs.Growing.{GrowsBy}
use Rattle.type_track.specs.Findings.{IsKeptBefore}
use Rattle.type_track.proofs.Barring.{IsBarredBelow}
use Rattle.type_track.proofs.barred.add_barred.Given as goal

abbrev pub invariant-loop-state : goal.invariant-loop-state
invariant-loop-state l = (p : LinkedProgram) → GrowsBy (IsKeptBefore p) (IsBarredBelow l.protocol l.site l.statement l.relation l.state) l.initial.findings.items l.findings.items
