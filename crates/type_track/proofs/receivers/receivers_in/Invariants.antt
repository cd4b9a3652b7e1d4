use Rattle.std.proofs.Common.{take}
use Rattle.type_track.specs.Receivers.{AreReceivers}
use Rattle.type_track.proofs.receivers.receivers_in.Given as goal

abbrev pub invariant-loop-statement : goal.invariant-loop-statement
invariant-loop-statement l = AreReceivers l.demand.nodes (take l.statement-index l.statements) l.receivers.items
