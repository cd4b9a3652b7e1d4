use Rattle.std.proofs.Common.{◌≡◌, flat_map, take}
use Rattle.link_rules.specs.Statements.{operands}
use Rattle.link_codes.specs.Contexts.{context_of}
use Rattle.link_codes.specs.Constants.{Uses}
use Rattle.link_codes.specs.Made.{MakesCodes}
use Rattle.link_codes.proofs.method.statements.Given as goal

abbrev pub invariant-loop-stmt : goal.invariant-loop-stmt
invariant-loop-stmt l = record {
  same : l.targets ≡ l.fn.targets;
  code : MakesCodes (context_of l.scope) l.constants (take l.stmt-index l.stmts) l.code.items;
  uses : Uses (context_of l.scope).names (flat_map operands (take l.stmt-index l.stmts)) l.fn.constants l.constants;
}
