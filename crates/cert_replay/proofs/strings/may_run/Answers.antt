use Rattle.std.proofs.Common.{◌∙◌, ap, eqb}
use Rattle.std.specs.List.{list_any}
use Rattle.cert_replay.proofs.CallStrings.{listed, target_listed, target_nowhere, target_other}
use Rattle.cert_replay.proofs.From.{never}
use Rattle.cert_replay.proofs.strings.may_run.Goals as goal

pub returns-in_default : goal.returns-in_default
returns-in_default c = never _ (λ runs. target_nowhere c.args.linked.now c.args.call.method c.args.call.index c.args.method c.in_default.ensures.none runs.1)

pub returns-in_default-code : goal.returns-in_default-code
returns-in_default-code c =
    never _ (λ runs. target_other c.args.linked.now c.args.call.method c.args.call.index c.args.method c.in-Some.code.now c.in-Some.ensures.some c.in_default-code.not-Call runs.1)

pub returns-in-Call : goal.returns-in-Call
returns-in-Call c =
    let l = c.in-Call in
    let has = listed l.targets c.args.method c.contains.result (c.contains.ensures.value ∙ ap (list_any (λ y. eqb y c.args.method)) c.as_slice.ensures) in
    let is =
    target_listed c.args.linked.now c.args.call.method c.args.call.index c.args.method c.in-Some.code.now c.in-Some.ensures.some l.to l.mode l.class l.key l.receiver l.args l.targets c.in-Call.is
    in
    ((λ t. (c.if-call.false, is.0 (has.0 t))), λ runs. has.1 (is.1 runs.1))
