use Rattle.std.proofs.Common.{true, refl, sym, ap, ◌∙◌, length, eq-eqb, true≢false}
use borrow.Author.Tests.{eqb-true}
use Rattle.cert_text.specs.Words.{SpellsIndex}
use Rattle.cert_text.proofs.NodeWords.{index_marked, marked_index, none_iff_both, some_iff_both}
use Rattle.cert_text.proofs.Numerals.{number_one}
use Rattle.cert_text.proofs.nodes.index.Goals as goal

pub returns-in_err-number-2 : goal.returns-in_err-number-2
returns-in_err-number-2 c = rw c.from_residual-in_err-number-2.ensures (none_iff_both {P = SpellsIndex c.args.word.now} (λ i raised is.
    let cut = c.in-Some.ensures in
    let parts = index_marked c.args.word.now c.in-Some.digits.now c.in-Some.rest.now cut.some cut.first i raised is in
    let read = (c.in_err-number-2.ensures i).1 parts.2 in cc))

pub returns-in_ok-number-2 : goal.returns-in_ok-number-2
returns-in_ok-number-2 c =
    let cut = c.in-Some.ensures in
    let number = (c.in_ok-number-2.ensures c.in_ok-number-2.field-0).0 refl in
    let none = eqb-true (length c.in-Some.rest.now) 0 (sym c.is_empty.ensures ∙ c.if-is_empty.true) in
    some_iff_both {P = SpellsIndex c.args.word.now} c.in_ok-number-2.field-0 true (marked_index c.args.word.now c.in-Some.digits.now c.in-Some.rest.now c.in_ok-number-2.field-0 cut.some none number)
    (λ i raised is.
    let parts = index_marked c.args.word.now c.in-Some.digits.now c.in-Some.rest.now cut.some cut.first i raised is in
    (number_one c.in-Some.digits.now c.in_ok-number-2.field-0 i number parts.2, sym parts.0))

pub returns-else-is_empty : goal.returns-else-is_empty
returns-else-is_empty c = none_iff_both {P = SpellsIndex c.args.word.now} (λ i raised is.
    let cut = c.in-Some.ensures in
    let parts = index_marked c.args.word.now c.in-Some.digits.now c.in-Some.rest.now cut.some cut.first i raised is in
    let empty = c.is_empty.ensures ∙ eq-eqb (length c.in-Some.rest.now) 0 (ap length parts.1) in
    true≢false (sym empty ∙ c.if-is_empty.false))
