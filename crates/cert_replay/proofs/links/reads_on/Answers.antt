use Rattle.std.proofs.Common.{sym}
use Rattle.cert_rules.specs.contracts.fact.EntryPartialEq.TheImpl.{eq-value}
use Rattle.cert_rules.specs.declared.fact.Entry.TheVariants.{Base}
use Rattle.cert_rules.proofs.Same.{same_entry, self_entry}
use Rattle.cert_replay.proofs.From.{differs, never}
use Rattle.cert_replay.proofs.Reading.{read_end, read_on, read_out, read_short}
use Rattle.cert_replay.proofs.links.reads_on.Goals as goal

pub returns-in_default-split_first : goal.returns-in_default-split_first
returns-in_default-split_first c =
    let l = c.loop-link in
    never _ (read_short c.args.linked.now c.args.given.now c.args.from.site _ l.left.now l.entry l.method l.rest.now l.invariant c.in-Some.link.now c.in-Some.others.now c.in-Some.ensures.cases.0
    c.in_default-split_first.ensures.cases)

pub returns-in_default-next : goal.returns-in_default-next
returns-in_default-next c =
    let l = c.loop-link in
    never _ (read_out c.args.linked.now c.args.given.now c.args.from.site _ l.left.now l.entry l.method l.rest.now l.invariant c.in-Some.link.now c.in-Some.others.now c.in-Some.ensures.cases.0
    c.in-Some-split_first.call.now c.in-Some-split_first.behind.now c.in-Some-split_first.ensures.cases.0 c.in_default-next.ensures)

pub loop-link-preserved : goal.loop-link-preserved
loop-link-preserved c =
    let l = c.loop-link in
    read_on c.args.linked.now c.args.given.now c.args.from.site _ l.left.now l.entry l.method l.rest.now l.invariant c.in-Some.link.now c.in-Some.others.now c.in-Some.ensures.cases.0
    c.in-Some-split_first.call.now c.in-Some-split_first.behind.now c.in-Some-split_first.ensures.cases.0 c.in-Some-next.below c.in-Some-next.ensures

pub returns-then-eq : goal.returns-then-eq
returns-then-eq c =
    let l = c.loop-link in
    let end = read_end c.args.linked.now c.args.given.now c.args.from.site _ l.left.now l.entry l.method l.rest.now l.invariant c.in_default.ensures.cases in
    ((λ t. end.0 (same_entry l.entry Base (sym c.if-eq.ensures), c.is_string.ensures.0 t)), λ w. c.is_string.ensures.1 (end.1 w).1)

pub returns-else-eq : goal.returns-else-eq
returns-else-eq c =
    let l = c.loop-link in
    let end = read_end c.args.linked.now c.args.given.now c.args.from.site _ l.left.now l.entry l.method l.rest.now l.invariant c.in_default.ensures.cases in
    rw c.if-eq.false (never _ (λ w. differs (eq-value).it self_entry l.entry Base c.if-eq.ensures (end.1 w).0))
