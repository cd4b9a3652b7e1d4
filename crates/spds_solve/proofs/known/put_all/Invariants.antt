use Rattle.std.proofs.Common.{take}
use Rattle.lists.specs.Lists.{Has}
use Rattle.spds_solve.specs.Known.{AreSeen}
use Rattle.spds_solve.proofs.known.put_all.Given as goal

abbrev pub invariant-loop-pair : goal.invariant-loop-pair
invariant-loop-pair l = AreSeen l.mets (Has (take l.pair-index l.pairs)) l.initial.pending.keys l.pending.keys
