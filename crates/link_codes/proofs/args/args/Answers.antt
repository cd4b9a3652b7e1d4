use Rattle.jim_ast.specs.declared.syntax.Imm.TheVariants as imm
use Rattle.link_rules.specs.Codes.{IsArg}
use Rattle.link_codes.specs.Contexts.{context_of, scope_with}
use Rattle.lists.proofs.SideBySide.{Each-all, Each-more}
use Rattle.link_codes.proofs.Used.{extends_then, uses_more}
use Rattle.link_codes.proofs.args.args.Goals as goal

pub loop-operand-preserved : goal.loop-operand-preserved
loop-operand-preserved c =
    let operands = c.args.operands.now in
    let at = c.loop-operand.operand-index in
    record {
      args = λ later kept.
          Each-more (IsArg (scope_with (context_of c.args.scope.now) later)) operands c.loop-operand.args.items c.push.new.self.items at (imm.Local (record { 0 = 0 })) c.in_ok-arg.field-0
          c.loop-operand-test.true c.in_ok-push.ensures.items
          (c.loop-operand.invariant.args later (extends_then c.loop-operand.constants c.arg.new.constants later c.in_ok-arg.ensures.uses.kept kept))
          (c.in_ok-arg.ensures.arg later kept);
      uses = uses_more (context_of c.args.scope.now).names operands at (imm.Local (record { 0 = 0 })) c.args.constants.now c.loop-operand.constants c.arg.new.constants c.loop-operand-test.true
          c.loop-operand.invariant.uses c.in_ok-arg.ensures.uses;
    }

pub returns-clause-args : goal.returns-clause-args
returns-clause-args c = λ later kept.
    Each-all (IsArg (scope_with (context_of c.args.scope.now) later)) c.args.operands.now c.loop-operand.args.items c.from_vec.result c.loop-operand.operand-index c.loop-operand-test.false
    c.from_vec.ensures (c.loop-operand.invariant.args later kept)
