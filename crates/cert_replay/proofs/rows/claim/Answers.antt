use Rattle.std.proofs.Common.{sym}
use Rattle.cert_rules.specs.contracts.fact.EntryPartialEq.TheImpl.{eq-value}
use Rattle.cert_rules.specs.declared.fact.Entry.TheVariants.{Base}
use Rattle.cert_rules.proofs.Same.{same_entry, self_entry}
use Rattle.spds_rules.proofs.Keys.{differs_node, same_node}
use Rattle.cert_replay.proofs.From.{both, never, tells}
use Rattle.cert_replay.proofs.Judged.{claim_elsewhere, claim_held_as, claim_none, claim_not_there}
use Rattle.cert_replay.proofs.rows.claim.Goals as goal

pub returns-in_default : goal.returns-in_default
returns-in_default c =
    let v = c.args.view.now in
    never _ (claim_none v.linked.now v.target c.args.given.now c.args.field c.args.call v.target c.in_default.ensures)

pub returns-in_default-entry_at : goal.returns-in_default-entry_at
returns-in_default-entry_at c =
    let v = c.args.view.now in
    never _ (claim_not_there v.linked.now v.target c.args.given.now c.args.field c.args.call c.in-Some.by_calls c.in-Some.ensures v.target c.in_default-entry_at.ensures)

pub returns-then-eq : goal.returns-then-eq
returns-then-eq c =
    let v = c.args.view.now in
    let itself = c.in-Some-entry_at.itself in
    let there = same_node c.in-Some.by_calls.node v.target (sym c.if-eq.ensures) in
    both (tells (eq-value).it same_entry self_entry itself Base c.eq-then-eq.result c.eq-then-eq.ensures)
    (claim_held_as v.linked.now v.target c.args.given.now c.args.field c.args.call c.in-Some.by_calls c.in-Some.ensures v.target itself c.in-Some-entry_at.ensures there)

pub returns-else-eq : goal.returns-else-eq
returns-else-eq c =
    let v = c.args.view.now in
    rw c.if-eq.false
    (never _ (claim_elsewhere v.linked.now v.target c.args.given.now c.args.field c.args.call c.in-Some.by_calls c.in-Some.ensures v.target (differs_node c.in-Some.by_calls.node v.target c.if-eq.ensures)))
