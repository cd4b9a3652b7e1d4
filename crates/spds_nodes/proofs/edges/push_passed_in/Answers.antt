use Rattle.spds_nodes.proofs.Joined.{IsAdded-none}
use Rattle.spds_nodes.proofs.Parts.{passed_in_position}
use Rattle.spds_nodes.proofs.edges.push_passed_in.Goals as goal

pub returns-then-not-is_position : goal.returns-then-not-is_position
returns-then-not-is_position c =
    IsAdded-none _ _ (λ e passed. let holds = c.is_position.ensures.1 (passed_in_position c.args.linked.now c.args.node e passed) in cc (holds, c.if-not-is_position.true))
