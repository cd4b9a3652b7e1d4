use Rattle.std.proofs.Common.{◌≡◌, sym, ap, subst, ◌∙◌}
use Rattle.std.proofs.lemmas.Result.{err_from_is_err_and, IfOk-weaker}
use Rattle.link_program.specs.Parts.{program_of}
use Rattle.link_rules.specs.Linked.{IsLinkOf}
use Rattle.link_rules.specs.declared.refusal.LinkError.TheVariants.{NoMemory}
use Rattle.jim_link.specs.Told.{TellsFirst}
use Rattle.jim_link.proofs.Whole.{on_error}
use Rattle.jim_link.proofs.linking.link_classes.Goals as goal

pub whole-requires-clause-form : goal.whole-requires-clause-form
whole-requires-clause-form c = rw c.into_tree.ensures (c.requires _ c.in_ok-parts.ensures.ok.linked)

pub returns-clause-ok : goal.returns-clause-ok
returns-clause-ok c =
    let w = c.args.classes.world in
    let parts = c.in_ok-parts.parts in
    IfOk-weaker c.whole.result (λ p. p ≡ program_of parts.code parts.members c.into_tree.result) (IsLinkOf w)
    (λ p is. subst (IsLinkOf w) (sym (is ∙ ap (program_of parts.code parts.members) c.into_tree.ensures)) c.in_ok-parts.ensures.ok.linked) c.whole.ensures.ok

pub returns-clause-err : goal.returns-clause-err
returns-clause-err c =
    let w = c.args.classes.world in
    on_error c.whole.result (λ e. e ≡ NoMemory) (TellsFirst w) (λ e is. subst (TellsFirst w) (sym is) tt) c.whole.ensures.err

pub returns-in_err-parts-clause-err : goal.returns-in_err-parts-clause-err
returns-in_err-parts-clause-err c =
    let p = err_from_is_err_and c.from_residual.result c.from_residual.ensures.1 in
    rw (p.1, p.2) c.in_err-parts.ensures.err
