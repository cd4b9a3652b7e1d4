use Rattle.std.proofs.lemmas.Result.{on_ok_weaker}
use Rattle.spds_nodes.proofs.Apart.{thrown_not_along}
use Rattle.spds_nodes.proofs.Froms.{IsFrom-same}
use Rattle.spds_nodes.proofs.Joined.{IsAdded-then}
use Rattle.spds_nodes.proofs.raised.push_into_raised.Goals as goal

pub returns : goal.returns
returns c =
    on_ok_weaker c.push_found.result
    (λ added. IsAdded-then _ _ _ _ _ (thrown_not_along c.args.linked.now c.args.node) c.in_ok-push_thrown_in.ensures
    (IsFrom-same _ _ _ _ _ _ _ c.of_frame.ensures (rw c.before-place.ensures at added)))
    c.push_found.ensures
