use Rattle.std.proofs.lemmas.Result.{on_ok_weaker}
use Rattle.spds_nodes.proofs.Apart.{brought_no_jump, brought_no_return}
use Rattle.spds_nodes.proofs.Joined.{IsAdded-then}
use Rattle.spds_nodes.proofs.Parts.{Over-same}
use Rattle.spds_nodes.proofs.behind.push_assigned.Goals as goal

pub returns : goal.returns
returns c =
    on_ok_weaker c.push_returns.result
    (λ added. IsAdded-then _ _ _ _ _ (brought_no_return c.args.linked.now c.args.node c.args.x c.args.place c.args.code.now)
    (IsAdded-then _ _ _ _ _ (brought_no_jump c.args.linked.now c.args.node c.args.x c.args.place c.args.code.now) c.in_ok-push_brought.ensures c.in_ok-push_jump.ensures)
    (Over-same _ _ _ _ _ c.taken_from.ensures added))
    c.push_returns.ensures
