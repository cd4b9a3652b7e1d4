use Rattle.std.proofs.lemmas.Option.{slice_get-get_or}
use Rattle.spds_rules.specs.declared.node.Var.TheVariants.{Local}
use Rattle.spds_nodes.specs.Backs.{IsBackAs}
use Rattle.spds_nodes.proofs.ComingBack.{back_position}
use Rattle.spds_nodes.proofs.Joined.{Over-end, Over-next}
use Rattle.spds_nodes.proofs.backs.push_back_in.Goals as goal

pub push_back_as-requires : goal.push_back_as-requires
push_back_as-requires c =
    c.requires.each _ (c.loop-position.position-index, slice_get-get_or c.args.positions.now c.loop-position.position-index (Local 0) c.loop-position-test.true)

pub loop-position-preserved : goal.loop-position-preserved
loop-position-preserved c =
    let p = c.args.linked.now in
    let list = c.args.positions.now in
    Over-next list (IsBackAs p c.args.node c.args.call c.args.target) _ _ _ c.loop-position.position-index _
    (slice_get-get_or list c.loop-position.position-index (Local 0) c.loop-position-test.true) c.requires.apart
    (λ a b e x y. back_position p c.args.node c.args.call c.args.target a b e x y) c.loop-position.invariant c.in_ok-push_back_as.ensures

pub returns : goal.returns
returns c =
    Over-end c.args.positions.now (IsBackAs c.args.linked.now c.args.node c.args.call c.args.target) _ _ _ c.loop-position.position-index
    c.loop-position-test.false (λ v. ((λ has. has), (λ has. has))) c.loop-position.invariant
