use Rattle.std.proofs.Common.{None, Some, codes, sym, ◌∙◌, true≢false, lit<}
use Rattle.std.proofs.lemmas.Slice.Eq.{bytes_eq-Decides}
use Rattle.std.proofs.lemmas.Str.Pattern.{split_parts}
use Rattle.boom_words.proofs.Parts.{not_plain, only_cells}
use Rattle.boom_words.proofs.fields.field_word.Goals as goal
use Rattle.boom_words.proofs.fields.field_word.Goals.{else-is_plain_name-via-then-is_plain_name+else-is_plain_name-2, else-is_plain_name-via-else-is_plain_name}

pub returns-in_err-class-clause-none : goal.returns-in_err-class-clause-none
returns-in_err-class-clause-none c = rw c.from_residual.ensures (
    only_cells c.args.part.now (split_parts 58 c.args.part.now None c.in_err-class.ensures.cases (lit< tt))
    (λ e. true≢false (sym ((bytes_eq-Decides c.args.part.now (codes "[]")).1 e) ∙ sym c.if-eq.ensures)))

pub returns-else-is_plain_name-clause-none : goal.returns-else-is_plain_name-clause-none
returns-else-is_plain_name-clause-none c =
    let cut = split_parts 58 c.args.part.now (Some (c.in_ok-class.class, c.in_ok-class.name)) c.in_ok-class.ensures.cases (lit< tt) in
    not_plain c.args.part.now c.in_ok-class.class.now c.in_ok-class.name.now cut.0 cut.1
    (λ e. true≢false (sym ((bytes_eq-Decides c.args.part.now (codes "[]")).1 e) ∙ sym c.if-eq.ensures))
    (λ class name. elim c.else-is_plain_name.branch [
      | else-is_plain_name-via-then-is_plain_name+else-is_plain_name-2 w ↦ true≢false (sym (w.is_plain_name-then-is_plain_name.ensures.1 name) ∙ w.if-is_plain_name-2.false)
      | else-is_plain_name-via-else-is_plain_name w ↦ true≢false (sym (c.is_plain_name.ensures.1 class) ∙ w.if-is_plain_name.false)
    ])
