use Rattle.std.proofs.Common.{arith}
use Rattle.lists.proofs.Places.{slice_get-below}
use Rattle.spds_nodes.specs.Backs.{IsParamAt}
use Rattle.spds_nodes.proofs.ComingBack.{one_param}
use Rattle.spds_nodes.proofs.Numbered.{Below-end, Below-next}
use Rattle.spds_nodes.proofs.positions.push_params.Goals as goal

pub loop-number-preserved : goal.loop-number-preserved
loop-number-preserved c =
    Below-next (IsParamAt c.args.args.now c.args.x) _ _ _ c.loop-number.number (λ a b v x y. one_param c.args.args.now c.args.x a b v x y)
    c.loop-number.invariant c.in_ok-push_param.ensures

pub returns : goal.returns
returns c =
    Below-end (IsParamAt c.args.args.now c.args.x) _ _ c.loop-number.number
    (λ i v there. let below = slice_get-below c.args.args.now i _ there.0 in omega (arith, below, c.loop-number-test.false))
    c.loop-number.invariant
