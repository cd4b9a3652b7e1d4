use Rattle.std.proofs.Common.{inl, inr, sym, ap, arith, subst, length, ℕ, ◌≢◌}
use Rattle.jim_text.specs.declared.lead.Lead.TheVariants.{Name, Other}
use Rattle.jim_signs.specs.declared.seen.Sign.{Sign}
use Rattle.jim_text.specs.declared.Kind.TheVariants as kind
use Rattle.jim_signs.proofs.DigitLemmas.{at_digits, length-part}
use Rattle.jim_signs.proofs.KnownLemmas.{word_classed, mark_classed, at_classed}
use Rattle.jim_signs.proofs.LeadLemmas.{IsNaming, word_names_none, mark_names_none}
use Rattle.jim_signs.proofs.TextLemmas.{name_utf8, text_utf8, text_two}
use Rattle.jim_signs.proofs.SignLemmas.{spelled}
use Rattle.jim_signs.proofs.sign.sign.Goals as goal

pub at_word-requires : goal.at_word-requires
at_word-requires c = at_digits c.args.bytes.now c.args.lexeme.token.from c.args.lexeme.token.to (spelled c.args.bytes.now c.args.lexeme.token kind.At c.in-At.is c.requires.begins) c.requires.begins.within

pub number_of_name-requires : goal.number_of_name-requires
number_of_name-requires c = name_utf8 (spelled c.args.bytes.now c.args.lexeme.token kind.Name c.in-Name.is c.requires.begins).0

pub as_text-requires : goal.as_text-requires
as_text-requires c = text_utf8 (spelled c.args.bytes.now c.args.lexeme.token kind.Text c.in-Text.is c.requires.begins)

pub number_of_text-requires-clause-quotes : goal.number_of_text-requires-clause-quotes
number_of_text-requires-clause-quotes c =
    let two = text_two (spelled c.args.bytes.now c.args.lexeme.token kind.Text c.in-Text.is c.requires.begins) in
    let long = length-part c.args.bytes.now c.args.lexeme.token.from c.args.lexeme.token.to (omega (arith, two)) c.requires.begins.within in
    omega (arith, two, long, ap length c.as_text.ensures)

pub returns-in-Word-clause-below : goal.returns-in-Word-clause-below
returns-in-Word-clause-below c = λ naming. elim c.in-Word.is [
  | inl word ↦ absurd (word_names_none _ (subst IsNaming (rw word at c.requires.classed) naming))
  | inr mark ↦ absurd (mark_names_none _ (subst IsNaming (rw mark at c.requires.classed) naming))
]

pub returns-in_ok-number_of_name-in-Name-clause-names : goal.returns-in_ok-number_of_name-in-Name-clause-names
returns-in_ok-number_of_name-in-Name-clause-names c = rw c.in-Name.is c.in_ok-number_of_name-in-Name.ensures.names

pub returns-in_ok-number_of_name-in-Name-clause-sign : goal.returns-in_ok-number_of_name-in-Name-clause-sign
returns-in_ok-number_of_name-in-Name-clause-sign c =
    let of : ℕ → Sign = λ number. record { lead = Name; text = number } in
    rw c.in-Name.is (ap of c.in_ok-number_of_name-in-Name.ensures.place)

pub returns-in-Word-clause-known : goal.returns-in-Word-clause-known
returns-in-Word-clause-known c = elim c.in-Word.is [
  | inl word ↦ subst (λ l. l ≢ Other) (sym (rw word at c.requires.classed)) (word_classed _ (spelled c.args.bytes.now c.args.lexeme.token kind.Word word c.requires.begins))
  | inr mark ↦ subst (λ l. l ≢ Other) (sym (rw mark at c.requires.classed))
      (mark_classed c.args.bytes.now c.args.lexeme.token.from c.args.lexeme.token.to (spelled c.args.bytes.now c.args.lexeme.token kind.Mark mark c.requires.begins)
      c.requires.begins.some c.requires.begins.within)
]

pub returns-in-At-clause-known : goal.returns-in-At-clause-known
returns-in-At-clause-known c =
    subst (λ l. l ≢ Other) (sym c.at_word.ensures.lead)
    (at_classed c.args.bytes.now c.args.lexeme.token.from c.args.lexeme.token.to (spelled c.args.bytes.now c.args.lexeme.token kind.At c.in-At.is c.requires.begins) c.requires.begins.within)
