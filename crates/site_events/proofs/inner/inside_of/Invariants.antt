use Rattle.std.proofs.Common.{◌<◌, ◌↔◌, ℕ, take}
use Rattle.weight_laws.specs.Rel.{Relates}
use Rattle.site_events.proofs.Led.{IsLedBy}
use Rattle.site_events.proofs.inner.inside_of.Given as goal

abbrev pub invariant-loop-event : goal.invariant-loop-event
invariant-loop-event l = (i j : ℕ) → i < 16 → Relates l.does i j ↔ IsLedBy (take l.event-index l.inner) l.methods i j
