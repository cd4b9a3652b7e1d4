use Rattle.std.proofs.Common.{◌-◌, ◌^◌}
use Rattle.call_side.specs.Trails.{AreKept}
use Rattle.track_tables.proofs.Upward.{IsOpenPast}
use Rattle.track_tables.proofs.opening.open_above.Given as goal

abbrev pub invariant-loop-base : goal.invariant-loop-base
invariant-loop-base l = record {
  bases : AreKept l.initial.bases.keys l.bases.keys;
  above : IsOpenPast l.parts.strings.value.steps l.at l.bases.keys l.marks.keys;
}

abbrev pub decreases-loop-base : goal.decreases-loop-base
decreases-loop-base l = 2 ^ 63 - l.at
