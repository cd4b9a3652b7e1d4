use Rattle.std.proofs.Common.{◌≡◌, Some, None, Result, Err, slice_get, refl, sym, ap, ◌∙◌}
use Rattle.std.proofs.lemmas.Result.{err_from_is_err_and}
use Rattle.spds_rules.specs.declared.node.Node.{Node}
use Rattle.cert_text.specs.declared.error.CertError.{CertError}
use Rattle.cert_text.proofs.NodeWords.{some_one}
use Rattle.cert_text.proofs.TextLines.{lines_behind, target_first, unread_bad}
use Rattle.cert_text.proofs.reading.read_cert.Goals as goal

no_node : (n : Node) → None ≡ Some n → ⊥
no_node n e = cc

same_err : {A : Type 0} (e f : CertError) → ◌≡◌ {A = Result A CertError} (Err e) (Err f) → e ≡ f
same_err e f same = cc

pub returns-in_default-target-clause-only : goal.returns-in_default-target-clause-only
returns-in_default-target-clause-only c = λ cert is.
    absurd (no_node cert.target ((c.in_default-target.ensures cert.target).1 (target_first c.args.bytes.now c.in_ok-texts.texts.items c.in-Some.first.now c.in_ok-texts.ensures
    (c.in-Some.ensures.value ∙ ap (λ l. slice_get l 0) c.deref.ensures.value) cert is)))

pub returns-in_err-lines-clause-only : goal.returns-in_err-lines-clause-only
returns-in_err-lines-clause-only c = λ cert is.
    let p = err_from_is_err_and c.from_residual-in_err-lines.result c.from_residual-in_err-lines.ensures.1 in
    rw (p.1, p.2) (c.in_err-lines.ensures.only cert.lines (lines_behind c.args.bytes.now c.in_ok-texts.texts.items c.in-Some.first.now c.in_ok-texts.ensures
    (c.in-Some.ensures.value ∙ ap (λ l. slice_get l 0) c.deref.ensures.value) cert is c.deref-2.result.now c.deref-2.ensures.value))

pub returns-in_err-lines-clause-bad : goal.returns-in_err-lines-clause-bad
returns-in_err-lines-clause-bad c = λ number e.
    let p = err_from_is_err_and c.from_residual-in_err-lines.result c.from_residual-in_err-lines.ensures.1 in
    let same = sym p.2 ∙ same_err p.0 _ (sym p.1 ∙ e) in
    unread_bad c.args.bytes.now c.in_ok-texts.texts.items c.in-Some.first.now c.in_ok-texts.ensures (c.in-Some.ensures.value ∙ ap (λ l. slice_get l 0) c.deref.ensures.value) c.deref-2.result.now
    c.deref-2.ensures.value c.in-Some-target.target ((c.in-Some-target.ensures c.in-Some-target.target).0 refl) number (c.in_err-lines.ensures.bad number (ap Err same))

pub returns-clause-only : goal.returns-clause-only
returns-clause-only c = λ cert is.
    let at = c.in-Some.ensures.value ∙ ap (λ l. slice_get l 0) c.deref.ensures.value in
    let target = some_one c.in-Some-target.target cert.target ((c.in-Some-target.ensures cert.target).1 (target_first c.args.bytes.now c.in_ok-texts.texts.items c.in-Some.first.now c.in_ok-texts.ensures at cert is)) in
    let lines = c.from_vec.ensures ∙ c.in_ok-lines.ensures.only cert.lines (lines_behind c.args.bytes.now c.in_ok-texts.texts.items c.in-Some.first.now c.in_ok-texts.ensures at cert is c.deref-2.result.now
    c.deref-2.ensures.value) in
    λ j. record { target = target j; lines = lines j }
