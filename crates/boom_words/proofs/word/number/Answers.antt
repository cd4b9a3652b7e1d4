use Rattle.std.proofs.Common.{◌≡◌, sym, ◌∙◌, arith, true≢false}
use Rattle.std.proofs.lemmas.Fmt.{parse-decimal}
use Rattle.std.proofs.lemmas.Slice.Eq.{bytes_eq-Decides}
use Rattle.boom_words.proofs.word.number.Goals as goal

pub returns-in_default-clause-only : goal.returns-in_default-clause-only
returns-in_default-clause-only c = λ n small e.
    absurd (c.in_default.not-Ok n (parse-decimal 32 n c.args.word.now c.parse.result small (omega arith) e c.parse.ensures.value.0))

pub returns-then-eq-clause-only : goal.returns-then-eq-clause-only
returns-then-eq-clause-only c = λ n small e.
    let parsed = parse-decimal 32 n c.args.word.now c.parse.result small (omega arith) e c.parse.ensures.value.0 in cc

pub returns-clause-only : goal.returns-clause-only
returns-clause-only c = λ n small e.
    let parsed = parse-decimal 32 n c.args.word.now c.parse.result small (omega arith) e c.parse.ensures.value.0 in
    let same : c.in-Ok.number ≡ n = cc in
    absurd (true≢false (sym ((bytes_eq-Decides c.as_str.result.now c.args.word.now).1 (c.as_str.ensures.value ∙ c.in_ok-printed.ensures.ok ∙ rw same (sym e))) ∙ sym c.if-eq.ensures))
