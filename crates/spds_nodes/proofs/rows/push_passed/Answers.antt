use Rattle.std.proofs.lemmas.Option.{slice_get-get_or}
use Rattle.spds_nodes.specs.Into.{IsPassedFrom}
use Rattle.spds_nodes.proofs.Froms.{IsFrom-same, places_apart, one_place}
use Rattle.spds_nodes.proofs.Joined.{Over-end, Over-next}
use Rattle.spds_nodes.proofs.rows.push_passed.Goals as goal

pub loop-call-preserved : goal.loop-call-preserved
loop-call-preserved c =
    let list = c.callers-calls.result.now in
    Over-next list (IsPassedFrom c.args.linked.now c.args.node) _ _ _ c.loop-call.call-index _
    (slice_get-get_or list c.loop-call.call-index (record { method = 0; index = 0 }) c.loop-call-test.true) (places_apart list c.callers-calls.ensures.ordered)
    (λ a b e x y. one_place e.from.place a b x.at y.at) c.loop-call.invariant
    (IsFrom-same _ _ _ _ _ _ _ c.passed_at-found.ensures (rw c.before-place.ensures at c.in_ok-push_found.ensures))

pub returns : goal.returns
returns c =
    Over-end c.callers-calls.result.now (IsPassedFrom c.args.linked.now c.args.node) _ _ _ c.loop-call.call-index c.loop-call-test.false
    c.callers-calls.ensures.each c.loop-call.invariant
