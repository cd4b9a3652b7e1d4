use Rattle.std.proofs.Common.{◌↔◌, ℕ, take}
use Rattle.lists.specs.Lists.{Has}
use Rattle.cert_trace.specs.declared.reading.Reading.{Reading}
use Rattle.cert_trace.specs.Readings.{IsLinkTo}
use Rattle.cert_trace.proofs.reading.steps_from.Given as goal

abbrev pub invariant-loop-link : goal.invariant-loop-link
invariant-loop-link l = (label : ℕ) (to : Reading) → Has l.steps.items (record { label = label; to = to }) ↔ (Has (take l.link-index l.links) label × IsLinkTo l.work.written l.word l.level label to)
