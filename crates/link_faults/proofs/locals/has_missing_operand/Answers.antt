use Rattle.std.proofs.lemmas.Bool.{iff_false}
use Rattle.jim_ast.specs.declared.syntax.Imm.TheVariants as imm
use Rattle.link_faults.specs.Sites.{HasMissingOperand}
use Rattle.link_faults.proofs.Scans.{found, none_found, none_more}
use Rattle.link_faults.proofs.locals.has_missing_operand.Goals as goal

pub returns-then-is_missing_operand : goal.returns-then-is_missing_operand
returns-then-is_missing_operand c =
    found (HasMissingOperand c.args.body.now.locals) c.args.operands.now c.loop-operand.operand-index (imm.Local (record { 0 = 0 })) c.loop-operand-test.true (c.is_missing_operand.ensures.0 c.if-is_missing_operand.true)

pub loop-operand-preserved : goal.loop-operand-preserved
loop-operand-preserved c =
    none_more (HasMissingOperand c.args.body.now.locals) c.args.operands.now c.loop-operand.operand-index (imm.Local (record { 0 = 0 })) c.loop-operand.invariant c.loop-operand-test.true
    (iff_false c.is_missing_operand.ensures c.if-is_missing_operand.false)

pub returns : goal.returns
returns c = none_found (HasMissingOperand c.args.body.now.locals) c.args.operands.now c.loop-operand.operand-index c.loop-operand.invariant c.loop-operand-test.false
