use Rattle.std.proofs.Common.{◌↔◌, length}
use Rattle.spds_rules.specs.Systems.{IsString}
use Rattle.cert_replay.proofs.strings.is_string.Given as goal

abbrev pub invariant-loop-call : goal.invariant-loop-call
invariant-loop-call l = IsString l.linked l.reached l.rest ↔ IsString l.linked l.method l.string

abbrev pub decreases-loop-call : goal.decreases-loop-call
decreases-loop-call l = length l.rest
