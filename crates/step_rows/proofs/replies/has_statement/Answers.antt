use Rattle.std.proofs.Common.{arith}
use Rattle.report_text.proofs.Standing.{stands}
use Rattle.step_rows.proofs.replies.has_statement.Goals as goal

pub returns : goal.returns
returns c = λ so plain.
    stands c.args.linked.now c.args.place c.code-code.result.now (omega (arith, c.if-place-methods.false, c.methods.ensures.count)) c.code-code.ensures
    (omega (arith, c.if-place-code.false)) plain
