use Rattle.std.proofs.Common.{◌≡◌, take}
use Rattle.cert_trace.proofs.meeting.string_copy.Given as goal

abbrev pub invariant-loop-place : goal.invariant-loop-place
invariant-loop-place l = l.copy.items ≡ take l.place-index l.string
