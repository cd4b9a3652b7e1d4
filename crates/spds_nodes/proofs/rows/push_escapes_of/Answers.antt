use Rattle.std.proofs.Common.{Some, sym, ap}
use Rattle.std.proofs.lemmas.Option.{same_Some, slice_get-get_or}
use Rattle.spds_nodes.specs.Into.{IsEscapeFrom}
use Rattle.spds_nodes.proofs.Froms.{IsFrom-same, indexes_apart, one_raised}
use Rattle.spds_nodes.proofs.Joined.{Over-end, Over-next}
use Rattle.spds_nodes.proofs.rows.push_escapes_of.Goals as goal

pub loop-index-preserved : goal.loop-index-preserved
loop-index-preserved c =
    let list = c.raised-statements.result.now in
    Over-next list (IsEscapeFrom c.args.node c.args.call c.args.target) _ _ _ c.loop-index.index-index _
    (slice_get-get_or list c.loop-index.index-index 0 c.loop-index-test.true) (indexes_apart list c.raised-statements.ensures.ordered)
    (λ a b e x y. one_raised e.from.place _ _ a b x.at y.at) c.loop-index.invariant
    (IsFrom-same _ _ _ _ _ _ _ (λ v. ((λ some. sym (same_Some _ _ some)), (λ is. ap Some (sym is)))) (rw c.in_flight-place.ensures at c.in_ok-push_found.ensures))

pub returns : goal.returns
returns c =
    Over-end c.raised-statements.result.now (IsEscapeFrom c.args.node c.args.call c.args.target) _ _ _ c.loop-index.index-index c.loop-index-test.false
    c.raised-statements.ensures.each c.loop-index.invariant
