use Rattle.std.proofs.Common.{◌≡◌, List, map, sym, ap, subst, ◌∙◌}
use Rattle.std.proofs.lemmas.List.{take_all}
use Rattle.spds_rules.specs.declared.node.Node.{Node}
use Rattle.spds_rules.specs.declared.reach.Reach.TheVariants.{Tracked}
use Rattle.site_events.specs.EventStatements.{IsQuery, receiver_node}
use Rattle.site_events.proofs.Asking.{is_query}
use Rattle.site_events.proofs.query.receivers.Goals as goal

pub returns-clause-nodes : goal.returns-clause-nodes
returns-clause-nodes c =
    c.loop-statement.invariant ∙ ap (map receiver_node) (take_all c.loop-statement.statement-index c.args.statements.now c.loop-statement-test.false)

pub returns-clause-asked : goal.returns-clause-asked
returns-clause-asked c = λ p k exact.
    let all : c.loop-statement.nodes.items ≡ map receiver_node c.args.statements.now =
    c.loop-statement.invariant ∙ ap (map receiver_node) (take_all c.loop-statement.statement-index c.args.statements.now c.loop-statement-test.false) in
    subst (λ (ns : List Node). IsQuery p k (record { targets = ns; reach = Tracked })) (sym all) (is_query p k c.args.statements.now exact)
