use Rattle.spds_nodes.proofs.ComingBack.{positions_are}
use Rattle.spds_nodes.proofs.positions.positions_of.Goals as goal

pub returns : goal.returns
returns c =
    positions_are c.args.receiver c.args.args.now c.args.x _ _ _ c.new-positions.ensures.items c.in_ok-push_receiver.ensures c.in_ok-push_params.ensures
