use Rattle.std.proofs.Common.{◌-◌, ◌^◌}
use Rattle.spds_solve.specs.Composing.{AreComposed, AreJoined}
use Rattle.spds_solve.proofs.compose.compose.Given as goal

abbrev pub invariant-loop-ways : goal.invariant-loop-ways
invariant-loop-ways l = record {
  joined : AreJoined l.initial.mets l.mets;
  composed : AreComposed l.mets l.ways;
}

abbrev pub decreases-loop-ways : goal.decreases-loop-ways
decreases-loop-ways l = 2 ^ 64 - l.ways.done
