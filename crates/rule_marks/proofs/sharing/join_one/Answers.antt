use Rattle.std.proofs.Common.{length, arith, ap, ◌∙◌}
use Rattle.std.proofs.lemmas.Result.{on_ok_weaker}
use Rattle.rule_marks.specs.Sharing.{leader_in}
use Rattle.rule_marks.proofs.Gathering.{joins_by}
use Rattle.rule_marks.proofs.sharing.join_one.Goals as goal

pub overflow_add-to : goal.overflow_add-to
overflow_add-to g c =
    let low = c.requires.leaders in
    let lead = c.leader_of-leader.ensures ∙ ap (leader_in c.args.leaders.now) c.source-from.ensures in
    omega (arith, lead, low)

pub returns : goal.returns
returns g c =
    on_ok_weaker c.put_if.result
    (λ adds_if. λ others shared was.
    joins_by g.W.Weight.domain (length c.args.leaders.now) (leader_in c.args.leaders.now) others shared c.args.rule.now c.is_same-leads.result c.args.made.now.items
    c.put_once.new.rules.items c.put_if.new.rules.items c.args.flags.now c.put_once.new.flags c.source-from.result c.leader_of-leader.result c.one.result c.at_node-own.result
    c.source-from.ensures c.leader_of-leader.ensures c.one.ensures c.at_node-own.ensures (λ t. c.is_same-leads.ensures.0 t) (λ e. c.is_same-leads.ensures.1 e)
    c.in_ok-put_once.ensures.rules c.put_once.ensures.flags adds_if was)
    c.put_if.ensures
