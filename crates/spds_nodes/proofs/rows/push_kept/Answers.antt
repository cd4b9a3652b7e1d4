use Rattle.std.proofs.lemmas.Option.{slice_get-get_or}
use Rattle.spds_nodes.specs.Into.{IsKeptFrom}
use Rattle.spds_nodes.proofs.Froms.{IsFrom-same, indexes_apart, one_index}
use Rattle.spds_nodes.proofs.Joined.{Over-end, Over-next}
use Rattle.spds_nodes.proofs.rows.push_kept.Goals as goal

pub loop-index-preserved : goal.loop-index-preserved
loop-index-preserved c =
    let list = c.before-statements.result.now in
    Over-next list (IsKeptFrom c.args.linked.now c.args.node) _ _ _ c.loop-index.index-index _
    (slice_get-get_or list c.loop-index.index-index 0 c.loop-index-test.true) (indexes_apart list c.before-statements.ensures.ordered)
    (λ a b e x y. one_index e.from.place _ _ a b x.at y.at) c.loop-index.invariant
    (IsFrom-same _ _ _ _ _ _ _ c.kept_at-found.ensures (rw c.before-in-loop-index.ensures at c.in_ok-push_found.ensures))

pub returns : goal.returns
returns c =
    Over-end c.before-statements.result.now (IsKeptFrom c.args.linked.now c.args.node) _ _ _ c.loop-index.index-index c.loop-index-test.false
    c.before-statements.ensures.each c.loop-index.invariant
