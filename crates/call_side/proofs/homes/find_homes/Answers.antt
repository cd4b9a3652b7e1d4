use Rattle.std.proofs.Common.{refl}
use Rattle.lists.proofs.Places.{slice_get-below}
use Rattle.call_side.specs.Indexed.{ComesHome}
use Rattle.call_side.proofs.Trails.{trail_none}
use Rattle.call_side.proofs.homes.find_homes.Goals as goal

pub returns : goal.returns
returns c =
    let steps = c.args.steps.now in
    let none = trail_none (ComesHome steps c.args.last) c.new-homes.result.bases.keys c.new-homes.result.origins.items c.new-homes.ensures.bases c.new-homes.ensures.origins in
    let first = c.in_ok-add.ensures.homes steps c.args.last refl none in
    let last = c.in_ok-add.ensures.there in
    record {
      ways = c.in_ok-spread.ensures.homes steps c.args.last c.in_ok-by_below.ensures first;
      has_last = (last.0, c.in_ok-spread.ensures.kept last.0 c.args.last last.1);
      closed = λ step has below. c.in_ok-spread.ensures.spread steps c.in_ok-by_below.ensures below.0 step (slice_get-below _ below.0 step.below below.1) has below.1;
    }
