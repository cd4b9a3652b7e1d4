use Rattle.std.proofs.Common.{ap}
use Rattle.post_star.proofs.Jobs.{led_none}
use Rattle.weight_rows.proofs.saturation.went_on.Goals as goal

pub with_bases-requires : goal.with_bases-requires
with_bases-requires c = rw c.new.ensures.items (record { led = led_none _ })

pub goes_on-requires : goal.goes_on-requires
goes_on-requires c = ap (λ j. j.last) c.in_ok-work.ensures
