use Rattle.std.proofs.lemmas.Option.{slice_get-get_or}
use Rattle.spds_nodes.specs.Into.{IsEscapeOf}
use Rattle.spds_nodes.proofs.Froms.{one_raised_method}
use Rattle.spds_nodes.proofs.Joined.{Over-end, Over-next}
use Rattle.spds_nodes.proofs.rows.push_escapes.Goals as goal

pub loop-target-preserved : goal.loop-target-preserved
loop-target-preserved c =
    Over-next _ (IsEscapeOf c.args.linked.now c.args.node c.args.call) _ _ _ c.loop-target.target-index _
    (slice_get-get_or _ c.loop-target.target-index 0 c.loop-target-test.true) (rw c.deref-target-items.ensures.value c.in_ok-once.ensures.apart)
    (λ a b e x y. one_raised_method e.from.place a b _ _ x.2.at y.2.at) c.loop-target.invariant c.in_ok-push_escapes_of.ensures

pub returns : goal.returns
returns c =
    Over-end _ (IsEscapeOf c.args.linked.now c.args.node c.args.call) _ _ _ c.loop-target.target-index c.loop-target-test.false
    (rw c.deref-target-items.ensures.value c.in_ok-once.ensures.same) c.loop-target.invariant
