use Rattle.std.proofs.Common.{flat_map, sym, subst, take, ◌∙◌, refl}
use Rattle.link_rules.specs.Codes.{IsCode}
use Rattle.link_rules.specs.Statements.{operands}
use Rattle.link_codes.specs.Contexts.{context_of, scope_with}
use Rattle.link_codes.specs.Constants.{Uses}
use Rattle.lists.proofs.SideBySide.{Each-all, Each-more}
use Rattle.link_codes.proofs.Texts.{flat_map_more}
use Rattle.link_codes.proofs.Used.{extends_then, uses_then}
use Rattle.link_codes.proofs.method.statements.Goals as goal

pub loop-stmt-preserved : goal.loop-stmt-preserved
loop-stmt-preserved c =
    let stmts = c.args.stmts.now in
    let at = c.loop-stmt.stmt-index in
    let b = context_of c.args.scope.now in
    let now = c.statement.new.constants in
    record {
      same = c.in_ok-statement.ensures.same ∙ c.loop-stmt.invariant.same;
      code = λ later kept.
          Each-more (IsCode (scope_with b later)) stmts c.loop-stmt.code.items c.push.new.self.items at c.stmt-item.result c.in_ok-statement.field-0
          c.loop-stmt-test.true c.in_ok-push.ensures.items
          (c.loop-stmt.invariant.code later (extends_then c.loop-stmt.constants now later c.in_ok-statement.ensures.uses.kept kept))
          (subst (λ s. IsCode (scope_with b later) s c.in_ok-statement.field-0) c.stmt-item.is (c.in_ok-statement.ensures.code later kept));
      uses = subst (λ ops. Uses b.names ops c.args.constants.now now) (sym (flat_map_more operands stmts at c.stmt-item.result c.loop-stmt-test.true c.stmt-item.is))
          (uses_then b.names (flat_map operands (take at stmts)) (operands c.stmt-item.result) c.args.constants.now c.loop-stmt.constants now c.loop-stmt.invariant.uses
          c.in_ok-statement.ensures.uses);
    }

pub returns-clause-code : goal.returns-clause-code
returns-clause-code c = λ later kept.
    Each-all (IsCode (scope_with (context_of c.args.scope.now) later)) c.args.stmts.now c.loop-stmt.code.items c.loop-stmt.code.items c.loop-stmt.stmt-index c.loop-stmt-test.false refl
    (c.loop-stmt.invariant.code later kept)
