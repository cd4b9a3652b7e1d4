use Rattle.std.proofs.lemmas.Option.{slice_get-get_or}
use Rattle.lists.specs.Lists.{Has}
use Rattle.spds_nodes.specs.Backs.{IsBackOf}
use Rattle.spds_nodes.proofs.ComingBack.{back_method}
use Rattle.spds_nodes.proofs.Joined.{Over-end, Over-next}
use Rattle.spds_nodes.proofs.backs.push_back_over.Goals as goal

pub loop-target-preserved : goal.loop-target-preserved
loop-target-preserved c =
    let p = c.args.linked.now in
    let list = c.args.targets.now in
    let Passed = Has c.args.positions.now in
    Over-next list (IsBackOf p c.args.node c.args.call Passed) _ _ _ c.loop-target.target-index _
    (slice_get-get_or list c.loop-target.target-index 0 c.loop-target-test.true) c.requires.targets_apart
    (λ a b e x y. back_method p c.args.node c.args.call Passed Passed a b e x y) c.loop-target.invariant c.in_ok-push_back_in.ensures

pub returns : goal.returns
returns c =
    Over-end c.args.targets.now (IsBackOf c.args.linked.now c.args.node c.args.call (Has c.args.positions.now)) _ _ _ c.loop-target.target-index
    c.loop-target-test.false (λ t. ((λ has. has), (λ has. has))) c.loop-target.invariant
