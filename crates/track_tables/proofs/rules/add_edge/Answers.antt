use Rattle.std.proofs.Common.{List, sym, ◌∙◌, subst}
use Rattle.auto_table.specs.declared.rule.Rule.{Rule}
use Rattle.lists.specs.Lists.{Has}
use Rattle.track_tables.proofs.Taken.{one_rule, rule_came, rule_to, taken_rule, taken_zero}
use Rattle.weight_laws.specs.declared.rel.Rel.{Rel}
use Rattle.track_tables.proofs.rules.add_edge.Goals as goal

pub returns-then-leads_nowhere-clause-taken : goal.returns-then-leads_nowhere-clause-taken
returns-then-leads_nowhere-clause-taken c k q a events =
    let given = c.args.given.now in
    let from_is = rw c.nodes-nodes.ensures at (sym c.node_at.ensures ∙ c.in-Some.is) in
    let to_is = rw c.nodes-nodes.ensures at (sym c.node_at-2.ensures ∙ c.in-Some-node_at.is) in
    taken_zero given.linked.now k q a given.demand.now.nodes given.parts.now.calls c.args.edge c.in-Some.from c.in-Some-node_at.to from_is to_is c.edge_weight-weight.result
    (c.edge_weight-weight.ensures k q a events) c.args.growth.now.work.rules (c.leads_nowhere.ensures c.if-leads_nowhere.true)

pub add_rule-requires : goal.add_rule-requires
add_rule-requires c =
    rule_to c.calls.result.now c.args.edge.kind c.args.edge.from c.args.edge.to c.edge_weight-weight.result c.in-Some-edge_rule.rule
    ((c.edge_rule.ensures c.in-Some-edge_rule.rule).0 c.in-Some-edge_rule.is)

pub returns-in_ok-add_rule-clause-each : goal.returns-in_ok-add_rule-clause-each
returns-in_ok-add_rule-clause-each c k q a events r has =
    let given = c.args.given.now in
    let from_is = rw c.nodes-nodes.ensures at (sym c.node_at.ensures ∙ c.in-Some.is) in
    let to_is = rw c.nodes-nodes.ensures at (sym c.node_at-2.ensures ∙ c.in-Some-node_at.is) in
    let rule_is = rw c.calls.ensures at c.edge_rule.ensures in
    rule_came given.linked.now k q a given.demand.now.nodes given.parts.now.calls c.args.edge c.in-Some.from c.in-Some-node_at.to from_is to_is c.edge_weight-weight.result
    (c.edge_weight-weight.ensures k q a events) c.args.growth.now.work.rules c.in-Some-edge_rule.rule r ((rule_is c.in-Some-edge_rule.rule).0 c.in-Some-edge_rule.is)
    (subst (λ (rs : List (Rule Rel)). Has rs r) c.in_ok-add_rule.ensures.rules has)

pub returns-in_ok-add_rule-clause-taken : goal.returns-in_ok-add_rule-clause-taken
returns-in_ok-add_rule-clause-taken c k q a events =
    let given = c.args.given.now in
    let from_is = rw c.nodes-nodes.ensures at (sym c.node_at.ensures ∙ c.in-Some.is) in
    let to_is = rw c.nodes-nodes.ensures at (sym c.node_at-2.ensures ∙ c.in-Some-node_at.is) in
    let rule_is = rw c.calls.ensures at c.edge_rule.ensures in
    taken_rule given.linked.now k q a given.demand.now.nodes given.parts.now.calls c.args.edge c.in-Some.from c.in-Some-node_at.to from_is to_is c.edge_weight-weight.result
    (c.edge_weight-weight.ensures k q a events) c.add_rule.new.growth.work.rules
    (one_rule given.parts.now.calls c.args.edge c.edge_weight-weight.result c.in-Some-edge_rule.rule c.args.growth.now.work.rules c.add_rule.new.growth.work.rules
    c.in_ok-add_rule.ensures.rules (λ r. (λ e. (rule_is r).0 (c.in-Some-edge_rule.is ∙ e), λ h. sym c.in-Some-edge_rule.is ∙ (rule_is r).1 h)))

pub returns-in_default-edge_rule-clause-taken : goal.returns-in_default-edge_rule-clause-taken
returns-in_default-edge_rule-clause-taken c k q a events =
    let given = c.args.given.now in
    let from_is = rw c.nodes-nodes.ensures at (sym c.node_at.ensures ∙ c.in-Some.is) in
    let to_is = rw c.nodes-nodes.ensures at (sym c.node_at-2.ensures ∙ c.in-Some-node_at.is) in
    let rule_is = rw c.calls.ensures at c.edge_rule.ensures in
    taken_rule given.linked.now k q a given.demand.now.nodes given.parts.now.calls c.args.edge c.in-Some.from c.in-Some-node_at.to from_is to_is c.edge_weight-weight.result
    (c.edge_weight-weight.ensures k q a events) c.args.growth.now.work.rules
    (λ r is_rule. absurd (c.in_default-edge_rule.not-Some r ((rule_is r).1 is_rule)))
