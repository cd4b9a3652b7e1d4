use Rattle.std.proofs.Common.{◌∙◌, sym, subst, true≢false}
use Rattle.std.specs.Str.Parse.{ParsesUnsigned}
use Rattle.cert_text.specs.Words.{IsPlain}
use Rattle.cert_text.proofs.NodeWords.{none_iff}
use Rattle.cert_text.proofs.Numerals.{parsed_iff, plain_decimal, plain_utf8}
use Rattle.cert_text.proofs.numbers.number.Goals as goal

pub returns-then-not-is_plain : goal.returns-then-not-is_plain
returns-then-not-is_plain c = none_iff (λ n is. true≢false (sym (c.is_plain.ensures.1 (subst IsPlain (sym is.0) (plain_decimal n is.1))) ∙ c.if-not-is_plain.true))

pub returns-in-Ok : goal.returns-in-Ok
returns-in-Ok c = λ n.
    rw c.ok.ensures.value (parsed_iff _ c.args.word.now c.parse.result (c.is_plain.ensures.0 c.if-not-is_plain.false)
    (subst (λ l. ParsesUnsigned 32 10 l c.parse.result) c.in-Ok.ensures.cases.0 c.parse.ensures.value.0) n)

pub returns-in-Err : goal.returns-in-Err
returns-in-Err c = none_iff (λ n is. c.in-Err.ensures.cases.0 (plain_utf8 c.args.word.now (c.is_plain.ensures.0 c.if-not-is_plain.false)))
