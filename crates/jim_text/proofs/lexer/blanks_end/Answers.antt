use Rattle.std.proofs.Common.{sym, ◌∙◌, arith}
use Rattle.jim_text.specs.Lexes.Reads.{blank}
use Rattle.jim_text.proofs.lexer.blanks_end.Goals as goal

pub loop-end-preserved : goal.loop-end-preserved
loop-end-preserved c = record {
  low = omega (arith, c.loop-end.invariant.low);
  within = omega (arith, c.loop-end-test.true);
  read = λ to tokens more. c.loop-end.invariant.read to tokens (blank c.loop-end-test.true (sym c.is_blank.ensures ∙ c.if-is_blank.true) more);
}
