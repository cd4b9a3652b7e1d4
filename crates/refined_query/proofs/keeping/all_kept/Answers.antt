use Rattle.std.proofs.Common.{◌≤◌, length, arith}
use Rattle.refined_query.proofs.Selection.{kept_all, kept_none}
use Rattle.refined_query.proofs.keeping.all_kept.Goals as goal

pub loop-method-init : goal.loop-method-init
loop-method-init g c = rw c.new-kept.ensures.items (kept_none c.args.linked.now c.args.budget)

pub returns : goal.returns
returns g c =
    let past : length c.args.linked.now.methods ≤ c.loop-method.method = omega arith in
    kept_all c.args.linked.now c.args.budget c.loop-method.method c.loop-method.kept.items past c.loop-method.invariant
