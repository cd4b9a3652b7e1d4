use Rattle.std.proofs.Common.{All, take}
use Rattle.cert_rules.specs.Spelled.{FitsLine}
use Rattle.cert_trace.proofs.fitting.all_fit.Given as goal

abbrev pub invariant-loop-line : goal.invariant-loop-line
invariant-loop-line l = All FitsLine (take l.line-index l.lines)
