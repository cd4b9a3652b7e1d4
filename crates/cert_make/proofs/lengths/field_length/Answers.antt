use Rattle.std.proofs.Common.{◌∙◌, List, ap, subst, sym, ℕ}
use Rattle.cert_rules.specs.declared.line.Line.{Line}
use Rattle.cert_rules.specs.Lengths.{HasLength, cited_length}
use Rattle.cert_make.proofs.Sums.{told_claim}
use Rattle.cert_make.proofs.lengths.field_length.Goals as goal

pub returns : goal.returns
returns c = λ length has.
    let lines = c.as_slice-lines.result.now in
    let a = c.in-Some-Claim in
    let long : HasLength lines length = subst (λ (ls : List Line). HasLength ls length) (sym c.as_slice-lines.ensures) has in
    c.by_number.ensures ∙ ap (λ (ns : List ℕ). cited_length ns a.field) c.as_slice.ensures.value
    ∙ told_claim c.in_ok-lengths.lengths.items lines a.field-0.now a.field a.field-0-1 c.in_ok-lengths.ensures (sym a.ensures.value) a.field-0-is length long
