use Rattle.call_side.proofs.Arriving.{own_inserted}
use Rattle.call_side.proofs.arrivals.add_node.Goals as goal

pub returns-in_ok-insert : goal.returns-in_ok-insert
returns-in_ok-insert c = own_inserted c.args.nodes.now.keys c.insert.new.self.keys c.args.node c.if-node-lt-NODES.true c.in_ok-insert.ensures.keys
