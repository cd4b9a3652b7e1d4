use Rattle.std.proofs.Common.{◌≤◌, length, arith}
use Rattle.call_side.proofs.Counted.{calls_all, calls_none}
use Rattle.call_side.proofs.calls.call_places.Goals as goal

pub loop-method-init : goal.loop-method-init
loop-method-init c = rw c.new-places.ensures.items (calls_none c.args.linked.now)

pub returns : goal.returns
returns c = let past : length c.args.linked.now.methods ≤ c.loop-method.method = omega arith in calls_all c.args.linked.now c.loop-method.method c.loop-method.places.items past c.loop-method.invariant
