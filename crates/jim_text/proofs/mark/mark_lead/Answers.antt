use Rattle.std.proofs.Common.{◌∙◌, sym, ap, refl, length, arith}
use Rattle.jim_text.specs.Words.{marks, look_up, single_marks, double_marks, triple_marks}
use Rattle.jim_text.proofs.TableLemmas.{look_up-filter, look_up-absent, marks-length, one_byte, two_bytes, three_bytes}
use Rattle.jim_text.proofs.mark.mark_lead.Goals as goal

pub returns-in-1 : goal.returns-in-1
unfolding marks
returns-in-1 c = c.single_lead.ensures ∙ ap (look_up single_marks) (one_byte c.args.text.now c.in-1.is) ∙ sym (look_up-filter marks c.args.text.now 1 c.in-1.is)

pub returns-in-2 : goal.returns-in-2
unfolding marks
returns-in-2 c = c.double_lead.ensures ∙ ap (look_up double_marks) (two_bytes c.args.text.now c.in-2.is) ∙ sym (look_up-filter marks c.args.text.now 2 c.in-2.is)

pub returns-in-3 : goal.returns-in-3
unfolding marks
returns-in-3 c = c.triple_lead.ensures ∙ ap (look_up triple_marks) (three_bytes c.args.text.now c.in-3.is) ∙ sym (look_up-filter marks c.args.text.now 3 c.in-3.is)

pub returns-in_default : goal.returns-in_default
returns-in_default c = sym (look_up-absent marks c.args.text.now (length c.args.text.now) refl (marks-length (length c.args.text.now) (λ e. omega arith) (λ e. omega arith) (λ e. omega arith)))
