use Rattle.std.proofs.Common.{◌∙◌, ◌↔◌, List, subst, sym, true≢false}
use Rattle.link_sites.specs.declared.place.Place.{Place}
use Rattle.spds_rules.specs.Systems.{IsString}
use Rattle.cert_replay.proofs.CallStrings.{string_over, string_step, string_stops}
use Rattle.cert_replay.proofs.From.{both, never}
use Rattle.cert_replay.proofs.strings.is_string.Goals as goal

pub returns-then-not-may_run : goal.returns-then-not-may_run
returns-then-not-may_run c =
    let p = c.args.linked.now in
    let l = c.loop-call in
    never _ (λ is. string_stops p l.reached c.in-Some.call.now c.in-Some.behind.now (λ runs. true≢false (sym (c.may_run.ensures.1 runs) ∙ c.if-not-may_run.true))
    (subst (IsString p l.reached) c.in-Some.ensures.cases.0 (l.invariant.1 is)))

pub loop-call-preserved : goal.loop-call-preserved
loop-call-preserved c =
    let p = c.args.linked.now in
    let l = c.loop-call in
    let step = string_step p l.reached c.in-Some.call.now c.in-Some.behind.now (c.may_run.ensures.0 c.if-not-may_run.false) in
    let here = subst (λ (xs : List Place). IsString p l.reached xs ↔ IsString p c.args.method c.args.string.now) c.in-Some.ensures.cases.0 l.invariant in
    ((λ below. here.0 (step.1 below)), λ is. step.0 (here.1 is))

pub returns : goal.returns
returns c = both (string_over c.args.linked.now c.loop-call.reached c.root.result c.root.ensures c.loop-call.rest.now c.in_default.ensures.cases) c.loop-call.invariant
