use Rattle.std.proofs.lemmas.Result.{on_ok_weaker}
use Rattle.spds_nodes.proofs.Joined.{IsAdded-then}
use Rattle.spds_nodes.proofs.Parts.{Over-same}
use Rattle.spds_nodes.proofs.raised.push_flight.Goals as goal

pub returns : goal.returns
returns c =
    on_ok_weaker c.push_escapes.result
    (λ added. IsAdded-then _ _ _ _ _ (λ e thrown escaped. let flow = thrown.is_kind in let return = escaped.2.2.is_kind in cc (flow, return))
    c.in_ok-push_thrown.ensures (Over-same _ _ _ _ _ c.targets_of.ensures added))
    c.push_escapes.ensures
