-- Code with the constants so far: it stays the code while each constant keeps its number.
use Rattle.std.specs.Prelude.{List, Option}
use Rattle.jim_ast.specs.declared.names.NameId.{NameId}
use Rattle.jim_ast.specs.declared.syntax.Expr.{Expr}
use Rattle.jim_ast.specs.declared.syntax.Imm.{Imm}
use Rattle.jim_ast.specs.declared.syntax.MethodSig.{MethodSig}
use Rattle.jim_ast.specs.declared.syntax.Mode.{Mode}
use Rattle.jim_ast.specs.declared.syntax.Stmt.{Stmt}
use Rattle.jim_ast.specs.declared.syntax.Trap.{Trap}
use Rattle.link_rules.specs.declared.code.Arg.{Arg}
use Rattle.link_rules.specs.declared.code.Catch.{Catch}
use Rattle.link_rules.specs.declared.code.Code.{Code}
use Rattle.link_rules.specs.Codes.{IsArg, IsAssignment, IsCall, IsCatch, IsCode}
use Rattle.lists.specs.Lists.{BothOrNone, Each}
use Rattle.link_codes.specs.declared.calls.CallParts.{CallParts}
use Rattle.link_codes.specs.declared.constants.Constants.{Constants}
use Rattle.link_codes.specs.Contexts.{Context, scope_with}
use Rattle.link_codes.specs.Constants.{Extends}

-- the code of an operand
abbrev pub MakesArg : Context → Constants → Imm → Arg → Type 0
MakesArg c now operand arg = (later : Constants) → Extends now later → IsArg (scope_with c later) operand arg

-- of operands, in order
abbrev pub MakesArgs : Context → Constants → List Imm → List Arg → Type 0
MakesArgs c now operands args = (later : Constants) → Extends now later → Each (IsArg (scope_with c later)) operands args

-- of an operand, if there is one
abbrev pub MakesAnyArg : Context → Constants → Option Imm → Option Arg → Type 0
MakesAnyArg c now operand arg = (later : Constants) → Extends now later → BothOrNone (IsArg (scope_with c later)) operand arg

-- the parts of a call
abbrev pub MakesCall : Context → Constants → Mode → MethodSig → List Imm → CallParts → Type 0
MakesCall c now mode sig operands call =
    (later : Constants) → Extends now later → IsCall (scope_with c later) mode sig operands call.class call.key call.args call.targets

-- the code of an assignment
abbrev pub MakesAssignment : Context → Constants → NameId → Expr → Code → Type 0
MakesAssignment c now x e code = (later : Constants) → Extends now later → IsAssignment (scope_with c later) x e code

-- of a statement
abbrev pub MakesCode : Context → Constants → Stmt → Code → Type 0
MakesCode c now s code = (later : Constants) → Extends now later → IsCode (scope_with c later) s code

-- of statements, in order
abbrev pub MakesCodes : Context → Constants → List Stmt → List Code → Type 0
MakesCodes c now stmts codes = (later : Constants) → Extends now later → Each (IsCode (scope_with c later)) stmts codes

-- the handler of a trap, which names no constants
abbrev pub MakesCatch : Context → Trap → Catch → Type 0
MakesCatch c trap catch = (k : Constants) → IsCatch (scope_with c k) trap catch

-- handlers of traps, in order
abbrev pub MakesCatches : Context → List Trap → List Catch → Type 0
MakesCatches c traps catches = (k : Constants) → Each (IsCatch (scope_with c k)) traps catches
