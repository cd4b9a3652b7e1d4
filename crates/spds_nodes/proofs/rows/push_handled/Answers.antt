use Rattle.std.proofs.lemmas.Option.{slice_get-get_or}
use Rattle.spds_nodes.specs.Into.{IsHandledFrom}
use Rattle.spds_nodes.proofs.Froms.{indexes_apart, one_raised}
use Rattle.spds_nodes.proofs.Joined.{Over-end, Over-next}
use Rattle.spds_nodes.proofs.rows.push_handled.Goals as goal

pub loop-index-preserved : goal.loop-index-preserved
loop-index-preserved c =
    let list = c.raised-statements.result.now in
    Over-next list (IsHandledFrom c.args.linked.now c.args.node c.args.var) _ _ _ c.loop-index.index-index _
    (slice_get-get_or list c.loop-index.index-index 0 c.loop-index-test.true) (indexes_apart list c.raised-statements.ensures.ordered)
    (λ a b e x y. one_raised e.from.place _ _ a b x.at y.at) c.loop-index.invariant c.in_ok-push_handled_at.ensures

pub returns : goal.returns
returns c =
    Over-end c.raised-statements.result.now (IsHandledFrom c.args.linked.now c.args.node c.args.var) _ _ _ c.loop-index.index-index c.loop-index-test.false
    c.raised-statements.ensures.each c.loop-index.invariant
