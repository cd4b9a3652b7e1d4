use Rattle.std.proofs.Common.{take}
use Rattle.link_codes.specs.Contexts.{context_of}
use Rattle.link_codes.specs.Constants.{Uses}
use Rattle.link_codes.specs.Made.{MakesArgs}
use Rattle.link_codes.proofs.args.args.Given as goal

abbrev pub invariant-loop-operand : goal.invariant-loop-operand
invariant-loop-operand l = record {
  args : MakesArgs (context_of l.scope) l.constants (take l.operand-index l.operands) l.args.items;
  uses : Uses (context_of l.scope).names (take l.operand-index l.operands) l.fn.constants l.constants;
}
