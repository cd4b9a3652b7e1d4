use Rattle.std.proofs.Common.{◌↔◌, ℕ, take}
use Rattle.lists.specs.Lists.{Has}
use Rattle.cert_trace.specs.declared.reading.Reading.{Reading}
use Rattle.cert_trace.specs.Readings.{Begins}
use Rattle.cert_trace.proofs.reading.starts_at.Given as goal

abbrev pub invariant-loop-number : goal.invariant-loop-number
invariant-loop-number l = (label : ℕ) (to : Reading) → Has l.starts.items (record { label = label; to = to }) ↔ (Has (take l.number-index l.numbers) label × Begins l.work.written l.spot.site l.spot.node label to)
