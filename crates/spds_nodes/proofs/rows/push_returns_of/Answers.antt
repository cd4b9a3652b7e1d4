use Rattle.std.proofs.lemmas.Option.{slice_get-get_or}
use Rattle.spds_nodes.specs.Into.{IsReturnFrom}
use Rattle.spds_nodes.proofs.Froms.{IsFrom-same, indexes_apart, one_index}
use Rattle.spds_nodes.proofs.Joined.{Over-end, Over-next}
use Rattle.spds_nodes.proofs.rows.push_returns_of.Goals as goal

pub loop-index-preserved : goal.loop-index-preserved
loop-index-preserved c =
    let list = c.returns-statements.result.now in
    Over-next list (IsReturnFrom c.args.linked.now c.args.node c.args.call c.args.target) _ _ _ c.loop-index.index-index _
    (slice_get-get_or list c.loop-index.index-index 0 c.loop-index-test.true) (indexes_apart list c.returns-statements.ensures.ordered)
    (λ a b e x y. one_index e.from.place _ _ a b x.at y.at) c.loop-index.invariant
    (IsFrom-same _ _ _ _ _ _ _ c.returned_at-found.ensures (rw c.before-place.ensures at c.in_ok-push_found.ensures))

pub returns : goal.returns
returns c =
    Over-end c.returns-statements.result.now (IsReturnFrom c.args.linked.now c.args.node c.args.call c.args.target) _ _ _ c.loop-index.index-index c.loop-index-test.false
    c.returns-statements.ensures.each c.loop-index.invariant
