use Rattle.std.proofs.Common.{◌≡◌, Err, ap, subst}
use Rattle.demand_set.specs.declared.demanded.DemandError.TheVariants.{OverBudget}
use Rattle.demand_set.specs.Walks.{HasAtMost}
use Rattle.spds_rules.specs.Demand.{Asked, Demand}
use Rattle.lists.specs.Lists.{HasMore}
use Rattle.spds_rules.specs.declared.reach.Reach.TheVariants.{Tracked}
use Rattle.track_sound.proofs.Sounding.{safe_where_nothing_found}
use Rattle.type_track.proofs.Asking.{event_node, query_for, query_one}
use Rattle.type_track.proofs.Findings.{all_tellable, none_found}
use Rattle.type_track.proofs.tracking.track.Goals as goal

pub demand-requires : goal.demand-requires
demand-requires g c =
    let p = c.args.linked.now in
    let k = c.args.protocol.now in
    let query = query_for p k c.in_ok-statements.statements.items c.deref.result.now c.in_ok-nodes.nodes.items c.deref-2.result.now c.in_ok-statements.ensures
    c.deref.ensures.value (c.in_ok-nodes.ensures.asked p k) c.deref-2.ensures.value in
    record { nodes = λ n has. event_node p k c.requires.well.form n ((query.asked.receivers n).0 has) }

pub returns-in-Ok-clause-tellable : goal.returns-in-Ok-clause-tellable
returns-in-Ok-clause-tellable g c =
    let verdict = c.in_ok-verdict_over-in-Ok.ensures.verdict in
    all_tellable c.args.linked.now c.args.protocol.now verdict.q c.requires.well.form c.tell_form.ensures c.in_ok-verdict_over-in-Ok.field-0.findings verdict.findings

pub returns-in-Ok-clause-beyond : goal.returns-in-Ok-clause-beyond
returns-in-Ok-clause-beyond g c = λ beyond.
    let p = c.args.linked.now in
    let k = c.args.protocol.now in
    let query = query_for p k c.in_ok-statements.statements.items c.deref.result.now c.in_ok-nodes.nodes.items c.deref-2.result.now c.in_ok-statements.ensures
    c.deref.ensures.value (c.in_ok-nodes.ensures.asked p k) c.deref-2.ensures.value in
    let same = query_one p k beyond.0 (record { targets = c.deref-2.result.now; reach = Tracked }) beyond.1 query in
    c.in-Ok.ensures.beyond (subst (λ (q : Asked). HasMore (Demand p q) c.args.budget) same beyond.2)

pub returns-in-Ok-clause-safe : goal.returns-in-Ok-clause-safe
returns-in-Ok-clause-safe g c = λ covered none.
    let p = c.args.linked.now in
    let k = c.args.protocol.now in
    let verdict = c.in_ok-verdict_over-in-Ok.ensures.verdict in
    safe_where_nothing_found p c.requires.well covered k verdict.q verdict.query.asked
    (none_found p k verdict.q c.in_ok-verdict_over-in-Ok.field-0.findings none verdict.findings)

pub returns-clause-over : goal.returns-clause-over
returns-clause-over g c = λ spent is.
    let p = c.args.linked.now in
    let k = c.args.protocol.now in
    let query = query_for p k c.in_ok-statements.statements.items c.deref.result.now c.in_ok-nodes.nodes.items c.deref-2.result.now c.in_ok-statements.ensures
    c.deref.ensures.value (c.in_ok-nodes.ensures.asked p k) c.deref-2.ensures.value in
    let error : c.in-Err.error ≡ OverBudget spent = (let e = is in cc) in
    let over = c.in-Err.ensures.over spent (ap Err error) in
    (over.0, (record { targets = c.deref-2.result.now; reach = Tracked }, query, over.1))

pub returns-clause-enough : goal.returns-clause-enough
returns-clause-enough g c = λ spent few is.
    let p = c.args.linked.now in
    let k = c.args.protocol.now in
    let query = query_for p k c.in_ok-statements.statements.items c.deref.result.now c.in_ok-nodes.nodes.items c.deref-2.result.now c.in_ok-statements.ensures
    c.deref.ensures.value (c.in_ok-nodes.ensures.asked p k) c.deref-2.ensures.value in
    let error : c.in-Err.error ≡ OverBudget spent = (let e = is in cc) in
    let same = query_one p k few.0 (record { targets = c.deref-2.result.now; reach = Tracked }) few.1 query in
    c.in-Err.ensures.enough spent (subst (λ (q : Asked). HasAtMost (Demand p q) c.args.budget) same few.2) (ap Err error)
