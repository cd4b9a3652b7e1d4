use Rattle.std.proofs.Common.{◌↔◌, length}
use Rattle.cert_rules.specs.Given.{ReadsOn}
use Rattle.cert_replay.proofs.links.reads_on.Given as goal

abbrev pub invariant-loop-link : goal.invariant-loop-link
invariant-loop-link l =
    ReadsOn l.linked l.given l.from.site l.left l.entry l.method l.rest ↔ ReadsOn l.linked l.given l.from.site l.links l.from.entry l.from.node.place.method l.string

abbrev pub decreases-loop-link : goal.decreases-loop-link
decreases-loop-link l = length l.left
