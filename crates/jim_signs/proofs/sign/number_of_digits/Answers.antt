use Rattle.std.proofs.Common.{◌+◌, ◌*◌, ◌-◌, ◌∙◌, sym, ap, arith, get_or}
use Rattle.jim_signs.proofs.DigitLemmas.{next_number, next_low}
use Rattle.jim_signs.proofs.sign.number_of_digits.Goals as goal

pub overflow_mul-number : goal.overflow_mul-number
overflow_mul-number c =
    omega (arith, c.loop-digit.invariant, next_low c.args.digits.now c.loop-digit.digit-index c.requires.each c.requires.few c.loop-digit-test.true)

pub overflow_add-number : goal.overflow_add-number
overflow_add-number c =
    omega (arith, c.loop-digit.invariant, next_low c.args.digits.now c.loop-digit.digit-index c.requires.each c.requires.few c.loop-digit-test.true)

pub loop-digit-preserved : goal.loop-digit-preserved
loop-digit-preserved c =
    ap (λ n. n * 10 + (get_or c.args.digits.now c.loop-digit.digit-index 0 - 48)) c.loop-digit.invariant
    ∙ sym (next_number c.args.digits.now c.loop-digit.digit-index c.requires.each c.loop-digit-test.true)
