use Rattle.std.proofs.Common.{◌≡◌, List, ℕ, ◌∙◌, get_or, string_bytes, subst}
use Rattle.report_text.specs.Lines.{AddsLines}
use Rattle.run_report.specs.Reports.{AddsLocal, LocalLines}
use Rattle.run_report.proofs.Telling.{frame_method, locals_all, locals_next, locals_none, taken_all}
use Rattle.run_report.proofs.locals.push_locals.Goals as goal

pub locals-names-requires : goal.locals-names-requires
locals-names-requires c =
    frame_method c.args.linked.now c.args.machine.now.state.heap c.args.machine.now.state.frames c.args.frame c.args.method c.requires.there c.requires.fits c.requires.method

pub loop-local-init : goal.loop-local-init
loop-local-init c = λ f there. locals_none c.args.linked.now c.args.machine.now.state.heap f _

pub loop-local-preserved : goal.loop-local-preserved
loop-local-preserved c = λ f there.
    let names = c.locals-names.result.now in
    let name_is : c.as_str.result.now ≡ get_or names c.loop-local.local c.index-names-local.result = c.as_str.ensures ∙ c.index-names-local.is in
    locals_next c.args.linked.now c.args.machine.now.state.heap f names c.loop-local.local c.index-names-local.result _ _ _ c.loop-local-test.true
    (c.loop-local.invariant f there)
    (subst (λ (name : List ℕ). AddsLocal c.args.linked.now c.args.machine.now.state.heap f c.loop-local.local name (string_bytes c.loop-local.text) (string_bytes c.push_if_set.new.text))
    name_is (c.in_ok-push_if_set.ensures f there))

pub returns : goal.returns
returns c =
    let names = c.locals-names.result.now in
    locals_all c.args.linked.now c.args.machine.now.state.heap c.args.machine.now.state.frames c.args.frame c.args.method names _ _
    c.requires.fits c.requires.method c.locals-names.ensures
    (λ f there. subst (λ (xs : List (List ℕ)). AddsLines (LocalLines c.args.linked.now c.args.machine.now.state.heap f xs) (string_bytes c.args.text.now) (string_bytes c.loop-local.text))
    (taken_all names c.loop-local.local c.loop-local-test.false) (c.loop-local.invariant f there))
