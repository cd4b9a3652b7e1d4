use Rattle.std.proofs.Common.{arith}
use Rattle.spds_nodes.specs.Starts.{IsBeforeIn}
use Rattle.spds_nodes.proofs.Numbered.{Below-end, Below-next}
use Rattle.spds_nodes.proofs.Started.{there_method, there_method_below}
use Rattle.spds_nodes.proofs.starts.push_before_all.Goals as goal

pub loop-method-preserved : goal.loop-method-preserved
loop-method-preserved c =
    Below-next (IsBeforeIn c.args.linked.now c.args.var) _ _ _ c.loop-method.method
    (λ a b n x y. there_method c.args.linked.now c.args.var a b x.0 y.0 n x.1 y.1) c.loop-method.invariant c.in_ok-push_before_in.ensures

pub returns : goal.returns
returns c =
    Below-end (IsBeforeIn c.args.linked.now c.args.var) _ _ c.loop-method.method
    (λ m n x.
    let below = there_method_below c.args.linked.now c.args.var m x.0 n x.1 in
    omega (arith, below, c.methods-method-end.ensures.count, c.loop-method-test.false))
    c.loop-method.invariant
