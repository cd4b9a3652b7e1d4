use Rattle.std.proofs.Common.{◌∙◌, sym, refl, length, arith}
use Rattle.jim_text.specs.Words.{words}
use Rattle.jim_text.proofs.TableLemmas.{look_up-filter, look_up-absent, words-length}
use Rattle.jim_text.proofs.word.word_lead.Goals as goal

pub returns-in-2 : goal.returns-in-2
unfolding words
returns-in-2 c = c.lead_of_two.ensures ∙ sym (look_up-filter words c.args.text.now 2 c.in-2.is)

pub returns-in-3 : goal.returns-in-3
unfolding words
returns-in-3 c = c.lead_of_three.ensures ∙ sym (look_up-filter words c.args.text.now 3 c.in-3.is)

pub returns-in-4 : goal.returns-in-4
unfolding words
returns-in-4 c = c.lead_of_four.ensures ∙ sym (look_up-filter words c.args.text.now 4 c.in-4.is)

pub returns-in-5 : goal.returns-in-5
unfolding words
returns-in-5 c = c.lead_of_five.ensures ∙ sym (look_up-filter words c.args.text.now 5 c.in-5.is)

pub returns-in-6 : goal.returns-in-6
unfolding words
returns-in-6 c = c.lead_of_six.ensures ∙ sym (look_up-filter words c.args.text.now 6 c.in-6.is)

pub returns-in-7 : goal.returns-in-7
unfolding words
returns-in-7 c = c.lead_of_seven.ensures ∙ sym (look_up-filter words c.args.text.now 7 c.in-7.is)

pub returns-in-8 : goal.returns-in-8
unfolding words
returns-in-8 c = c.lead_of_eight.ensures ∙ sym (look_up-filter words c.args.text.now 8 c.in-8.is)

pub returns-in-9 : goal.returns-in-9
unfolding words
returns-in-9 c = c.lead_of_nine.ensures ∙ sym (look_up-filter words c.args.text.now 9 c.in-9.is)

pub returns-in-10 : goal.returns-in-10
unfolding words
returns-in-10 c = c.lead_of_ten.ensures ∙ sym (look_up-filter words c.args.text.now 10 c.in-10.is)

pub returns-in-11 : goal.returns-in-11
unfolding words
returns-in-11 c = c.lead_of_eleven.ensures ∙ sym (look_up-filter words c.args.text.now 11 c.in-11.is)

pub returns-in-12 : goal.returns-in-12
unfolding words
returns-in-12 c = c.lead_of_twelve.ensures ∙ sym (look_up-filter words c.args.text.now 12 c.in-12.is)

pub returns-in-13 : goal.returns-in-13
unfolding words
returns-in-13 c = c.lead_of_thirteen.ensures ∙ sym (look_up-filter words c.args.text.now 13 c.in-13.is)

pub returns-in-15 : goal.returns-in-15
unfolding words
returns-in-15 c = c.lead_of_fifteen.ensures ∙ sym (look_up-filter words c.args.text.now 15 c.in-15.is)

pub returns-in_default : goal.returns-in_default
returns-in_default c = sym (look_up-absent words c.args.text.now (length c.args.text.now) refl (words-length (length c.args.text.now) (λ e. omega arith) (λ e. omega arith) (λ e. omega arith) (λ e. omega arith) (λ e. omega arith) (λ e. omega arith) (λ e. omega arith) (λ e. omega arith) (λ e. omega arith) (λ e. omega arith) (λ e. omega arith) (λ e. omega arith) (λ e. omega arith)))
