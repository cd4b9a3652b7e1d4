use Rattle.std.proofs.Common.{◌≡◌}
use Rattle.weight_laws.specs.Rel.{rel_domain}
use Rattle.site_events.proofs.Closing.{IsWithin}
use Rattle.site_events.proofs.star.closure.Given as goal

abbrev pub invariant-loop-step : goal.invariant-loop-step
invariant-loop-step l = record {
  within : IsWithin l.step l.reach;
  next : l.further ≡ rel_domain.extend l.reach l.step;
}

abbrev pub decreases-loop-step : goal.decreases-loop-step
decreases-loop-step l = rel_domain.height l.reach
