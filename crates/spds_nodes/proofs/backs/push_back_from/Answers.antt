use Rattle.std.proofs.lemmas.Option.{slice_get-get_or}
use Rattle.spds_nodes.specs.Backs.{IsBackFromAt}
use Rattle.spds_nodes.proofs.ComingBack.{back_index}
use Rattle.spds_nodes.proofs.Froms.{IsFrom-same, indexes_apart}
use Rattle.spds_nodes.proofs.Joined.{Over-end, Over-next}
use Rattle.spds_nodes.proofs.backs.push_back_from.Goals as goal

pub loop-index-preserved : goal.loop-index-preserved
loop-index-preserved c =
    let p = c.args.linked.now in
    let list = c.left_at-statements.result.now in
    Over-next list (IsBackFromAt p c.args.node c.args.call c.args.target c.args.var) _ _ _ c.loop-index.index-index _
    (slice_get-get_or list c.loop-index.index-index 0 c.loop-index-test.true) (indexes_apart list c.left_at-statements.ensures.ordered)
    (λ a b e x y. back_index p c.args.node c.args.call c.args.target c.args.var a b e x y) c.loop-index.invariant
    (IsFrom-same _ _ _ _ _ _ _ c.var_at-found.ensures c.in_ok-push_found.ensures)

pub returns : goal.returns
returns c =
    Over-end c.left_at-statements.result.now (IsBackFromAt c.args.linked.now c.args.node c.args.call c.args.target c.args.var) _ _ _ c.loop-index.index-index
    c.loop-index-test.false c.left_at-statements.ensures.each c.loop-index.invariant
