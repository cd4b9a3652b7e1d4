use Rattle.std.proofs.Common.{◌≡◌, take}
use Rattle.type_track.specs.Receivers.{numbers_of}
use Rattle.type_track.proofs.receivers.nodes_of.Given as goal

abbrev pub invariant-loop-receiver : goal.invariant-loop-receiver
invariant-loop-receiver l = l.nodes.items ≡ numbers_of (take l.receiver-index l.receivers)
