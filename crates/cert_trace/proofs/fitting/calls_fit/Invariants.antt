use Rattle.std.proofs.Common.{All, take}
use Rattle.cert_rules.specs.Spelled.{FitsCall}
use Rattle.cert_trace.proofs.fitting.calls_fit.Given as goal

abbrev pub invariant-loop-place : goal.invariant-loop-place
invariant-loop-place l = All FitsCall (take l.place-index l.string)
