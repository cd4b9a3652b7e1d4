use Rattle.std.proofs.lemmas.Result.{on_ok_weaker}
use Rattle.spds_nodes.proofs.ComingBack.{plain_no_back, tracked_parts}
use Rattle.spds_nodes.proofs.Joined.{IsAdded-same, IsAdded-then}
use Rattle.spds_nodes.proofs.edges.push_into.Goals as goal

pub returns-in-Plain : goal.returns-in-Plain
returns-in-Plain c = rw c.in-Plain.is c.in_ok-push_plain.ensures

pub returns-in-Tracked : goal.returns-in-Tracked
returns-in-Tracked c =
    let p = c.args.linked.now in
    let n = c.args.node in
    rw c.in-Tracked.is
    (on_ok_weaker c.push_back.result
    (λ added. IsAdded-same _ _ _ _ (tracked_parts p n c.requires) (IsAdded-then _ _ _ _ _ (plain_no_back p n) c.in_ok-push_plain.ensures added))
    c.push_back.ensures)
