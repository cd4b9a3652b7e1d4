use Rattle.std.proofs.lemmas.Result.{on_ok_weaker}
use Rattle.spds_nodes.proofs.Apart.{kept_no_behind, no_handled, no_passed}
use Rattle.spds_nodes.proofs.Joined.{IsAdded-then}
use Rattle.spds_nodes.proofs.edges.push_into_unraised.Goals as goal

pub returns : goal.returns
returns c =
    let p = c.args.linked.now in
    let n = c.args.node in
    on_ok_weaker c.push_handled_in.result
    (λ added. IsAdded-then _ _ _ _ _ (no_handled p n)
    (IsAdded-then _ _ _ _ _ (no_passed p n)
    (IsAdded-then _ _ _ _ _ (kept_no_behind p n) c.in_ok-push_kept.ensures c.in_ok-push_behind.ensures) c.in_ok-push_passed_in.ensures) added)
    c.push_handled_in.ensures
