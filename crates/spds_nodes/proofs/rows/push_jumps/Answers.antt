use Rattle.std.proofs.lemmas.Option.{slice_get-get_or}
use Rattle.spds_nodes.specs.Into.{IsJumpFrom}
use Rattle.spds_nodes.proofs.Froms.{IsFrom-same, places_apart, one_place}
use Rattle.spds_nodes.proofs.Joined.{Over-end, Over-next}
use Rattle.spds_nodes.proofs.rows.push_jumps.Goals as goal

pub loop-store-preserved : goal.loop-store-preserved
loop-store-preserved c =
    let list = c.static_stores-stores.result.now in
    Over-next list (IsJumpFrom c.args.linked.now c.args.node c.args.field) _ _ _ c.loop-store.store-index _
    (slice_get-get_or list c.loop-store.store-index (record { method = 0; index = 0 }) c.loop-store-test.true) (places_apart list c.static_stores-stores.ensures.ordered)
    (λ a b e x y. one_place e.from.place a b x.at y.at) c.loop-store.invariant
    (IsFrom-same _ _ _ _ _ _ _ c.stored_at-found.ensures (rw c.before-place.ensures at c.in_ok-push_found.ensures))

pub returns : goal.returns
returns c =
    Over-end c.static_stores-stores.result.now (IsJumpFrom c.args.linked.now c.args.node c.args.field) _ _ _ c.loop-store.store-index c.loop-store-test.false
    c.static_stores-stores.ensures.each c.loop-store.invariant
