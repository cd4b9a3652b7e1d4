use Rattle.std.proofs.lemmas.Result.{on_ok_weaker}
use Rattle.spds_rules.specs.declared.reach.Reach.TheVariants.{Plain}
use Rattle.spds_nodes.specs.Into.{IsEdgeInto, IsIntoRaised, IsIntoUnraised}
use Rattle.spds_nodes.proofs.Flights.{raised_parts, unraised_parts}
use Rattle.spds_nodes.proofs.Joined.{IsAdded-same}
use Rattle.spds_nodes.proofs.edges.push_plain.Goals as goal

pub returns-then-node : goal.returns-then-node
returns-then-node c =
    let p = c.args.linked.now in
    let n = c.args.node in
    on_ok_weaker c.push_into_raised.result
    (IsAdded-same (IsIntoRaised p n) (IsEdgeInto p Plain n) _ _ (raised_parts p n c.tell_form.ensures c.requires c.if-node.true)) c.push_into_raised.ensures

pub returns-else-node : goal.returns-else-node
returns-else-node c =
    let p = c.args.linked.now in
    let n = c.args.node in
    on_ok_weaker c.push_into_unraised.result
    (IsAdded-same (IsIntoUnraised p n) (IsEdgeInto p Plain n) _ _ (unraised_parts p n c.tell_form.ensures c.requires c.if-node.false)) c.push_into_unraised.ensures
