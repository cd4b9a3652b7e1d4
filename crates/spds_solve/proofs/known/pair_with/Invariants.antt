use Rattle.std.proofs.Common.{take}
use Rattle.lists.specs.Lists.{Has}
use Rattle.spds_solve.specs.Known.{AreSeen, IsPairOf}
use Rattle.spds_solve.proofs.known.pair_with.Given as goal

abbrev pub invariant-loop-other : goal.invariant-loop-other
invariant-loop-other l = AreSeen l.mets (IsPairOf l.end l.post (Has (take l.other-index l.others))) l.initial.pending.keys l.pending.keys
