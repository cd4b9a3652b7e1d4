use Rattle.std.proofs.Common.{[], ◌∷◌, length, true≢false, refl, sym, ◌∙◌, arith}
use Rattle.jim_text.specs.Lexes.{TokenAt, IsNext}
use Rattle.jim_text.specs.Lexes.Reads.{ends, blank, comment, token}
use Rattle.jim_text.proofs.lexer.next_token.Goals as goal

pub loop-at-init : goal.loop-at-init
loop-at-init c = record { low = omega arith; within = c.requires.within; read = λ to tokens more. more }

pub loop-at-preserved-then-is_blank : goal.loop-at-preserved-then-is_blank
loop-at-preserved-then-is_blank c = record {
  low = omega (arith, c.loop-at.invariant.low, c.blanks_end-at.ensures.low);
  within = c.blanks_end-at.ensures.within;
  read = λ to tokens more. c.loop-at.invariant.read to tokens (blank c.loop-at-test.true (sym c.is_blank.ensures ∙ c.if-is_blank.true) (c.blanks_end-at.ensures.read to tokens more));
}

pub loop-at-preserved : goal.loop-at-preserved
loop-at-preserved c = record {
  low = omega (arith, c.loop-at.invariant.low, c.in-Some.ensures.1);
  within = c.in-Some.ensures.2;
  read = λ to tokens more. c.loop-at.invariant.read to tokens (comment c.in-Some.ensures.0 more);
}

pub returns : goal.returns
returns c = c.loop-at.invariant.read (length c.args.bytes.now) [] (ends (omega (arith, c.loop-at.invariant.within, c.loop-at-test.false)))

pub returns-in-Some-default : goal.returns-in-Some-default
returns-in-Some-default c =
    let first = c.in-Some-default.token in
    let here : TokenAt c.args.bytes.now c.loop-at.at first = rw c.in-Some-default.is-0 at c.token_at.ensures.token in
    let next : IsNext c.args.bytes.now c.args.from first = record {
      spelled = here.1.begins;
      low = omega (arith, c.loop-at.invariant.low, here.0, here.1.begins.some);
      reads = λ to rest more. c.loop-at.invariant.read to (first ∷ rest) (token first here.0 here.1 more);
    } in
    (next, rw c.in-Some-default.is-0 at c.token_at.ensures.lead)

pub returns-in-None-default : goal.returns-in-None-default
returns-in-None-default c = (
  c.loop-at.invariant.read c.loop-at.at [] (ends refl),
  c.loop-at-test.true,
  record {
    blank = λ less b. true≢false (sym b ∙ sym c.is_blank.ensures ∙ c.if-is_blank.false);
    comment = c.in_default.ensures;
    token = rw c.in-None-default.is-0 at c.token_at.ensures.token;
  },
)
