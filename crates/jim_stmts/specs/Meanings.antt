-- What the trees of the grammar mean, from a name up to a statement. Numerals, conditions, indices, lengths, the types of identity statements and
-- the operators other than whether they divide stand in the trees alone.
use Rattle.std.specs.Prelude.{ℕ, ◌+◌, ◌-◌, Bool, true, false, List, [], ◌∷◌, ◌++◌, map, length, Option, Some, None}
use Rattle.jim_ast.specs.declared.names.NameId.{NameId}
use Rattle.jim_ast.specs.declared.syntax.Base.{Base}
use Rattle.jim_ast.specs.declared.syntax.Base.TheVariants as base
use Rattle.jim_ast.specs.declared.syntax.Ty.{Ty}
use Rattle.jim_ast.specs.declared.syntax.FieldSig.{FieldSig}
use Rattle.jim_ast.specs.declared.syntax.MethodSig.{MethodSig}
use Rattle.jim_ast.specs.declared.syntax.Imm.{Imm}
use Rattle.jim_ast.specs.declared.syntax.Imm.TheVariants as operands
use Rattle.jim_ast.specs.declared.syntax.Mode.{Mode}
use Rattle.jim_ast.specs.declared.syntax.Mode.TheVariants as mode
use Rattle.jim_ast.specs.declared.syntax.Invoke.{Invoke}
use Rattle.jim_ast.specs.declared.syntax.Invoke.TheVariants as invokes
use Rattle.jim_ast.specs.declared.syntax.Expr.{Expr}
use Rattle.jim_ast.specs.declared.syntax.Expr.TheVariants as exprs
use Rattle.jim_ast.specs.declared.syntax.Stmt.{Stmt}
use Rattle.jim_ast.specs.declared.syntax.Stmt.TheVariants as stmts
use Rattle.jim_text.specs.declared.lead.Lead.{Lead}
use Rattle.jim_text.specs.declared.lead.Lead.TheVariants as lead
use Rattle.jim_grammar.specs.Forms.{LocalImm, NumberImm, TextImm, ClassImm, NullImm, UseExpr, NewExpr, ArrayExpr, MultiExpr, CastExpr, InstanceExpr, LengthExpr, NegExpr, BinaryExpr, FieldExpr, StaticExpr, CellExpr, InvokeExpr, OnReceiver, OnClass, Dynamic, ThisStmt, ParamStmt, CaughtStmt, AssignStmt, PutFieldStmt, PutStaticStmt, PutCellStmt, CallStmt, IfStmt, GotoStmt, SwitchStmt, ReturnStmt, RetStmt, ThrowStmt, MonitorStmt, SkipStmt, VoidResult, TypeResult}
use Rattle.jim_grammar.specs.Expressions.{Re, Opt, Tree, Between}
use Rattle.jim_grammar.specs.Grammar.{name, names, ty, types, imm, imms, fsig, outcome, msig, invoke, own, first_own, expr, case_line, stmt, pair, commas, comma_more}

-- the name with a number
abbrev pub id : ℕ → NameId
id n = record { 0 = n }

-- what more elements mean, each behind a comma
abbrev pub more_of : {V : Type 0} → (a : Re) → (Tree a → V) → List (Tree (comma_more a)) → List V
more_of a f [] = []
more_of a f ((_, (x, _)) ∷ xs) = f x ∷ more_of a f xs

-- what elements with commas between them mean
abbrev pub commas_of : {V : Type 0} → (a : Re) → (Tree a → V) → Tree (commas a) → List V
commas_of a f (x, (xs, _)) = f x ∷ more_of a f xs

-- what each of a list with commas means, where there is one
abbrev pub maybe_commas_of : {V : Type 0} → (a : Re) → (Tree a → V) → Tree (Opt (commas a)) → List V
maybe_commas_of a f None = []
maybe_commas_of a f (Some x) = commas_of a f x

-- names with commas between them
abbrev pub names_of : Tree names → List NameId
names_of x = commas_of name id x

-- the base that a word means, or a name
abbrev pub base_by : Lead → ℕ → Base
base_by lead.Boolean n = base.Boolean
base_by lead.Byte n = base.Byte
base_by lead.Short n = base.Short
base_by lead.Char n = base.Char
base_by lead.Int n = base.Int
base_by lead.Long n = base.Long
base_by lead.Float n = base.Float
base_by lead.Double n = base.Double
base_by _ n = base.Class (id n)

-- a type: its base, and how many pairs of brackets it has
abbrev pub ty_of : Tree ty → Ty
ty_of (b, (pairs, _)) = record { base = base_by b.lead b.text; dims = length pairs.items }

abbrev pub types_of : Tree types → List Ty
types_of x = commas_of ty ty_of x

-- the types of parameters, none at all too
abbrev pub maybe_types_of : Tree (Opt types) → List Ty
maybe_types_of x = maybe_commas_of ty ty_of x

-- the type of a result
abbrev pub outcome_of : Tree outcome → Ty
outcome_of (VoidResult, _) = record { base = base.Void; dims = 0 }
outcome_of (TypeResult, (t, _)) = ty_of t

-- an operand
abbrev pub imm_of : Tree imm → Imm
imm_of (LocalImm, (x, _)) = operands.Local (id x)
imm_of (NumberImm, _) = operands.Number
imm_of (TextImm, (x, _)) = operands.Text (id x)
imm_of (ClassImm, (_, (x, _))) = operands.ClassConst (id x)
imm_of (NullImm, _) = operands.Null

-- an operand, where there is one
abbrev pub maybe_imm_of : Tree (Opt imm) → Option Imm
maybe_imm_of None = None
maybe_imm_of (Some i) = Some (imm_of i)

abbrev pub imms_of : Tree imms → List Imm
imms_of x = commas_of imm imm_of x

-- the arguments of a call
abbrev pub args_of : Tree (Opt imms) → List Imm
args_of x = maybe_commas_of imm imm_of x

-- the signature of a field
abbrev pub fsig_of : Tree fsig → FieldSig
fsig_of (_, (c, (_, (t, (f, _))))) = record { class = id c; ty = ty_of t; name = id f }

-- the signature of a method
abbrev pub msig_of : Tree msig → MethodSig
msig_of (_, (c, (_, (t, (m, (_, (ts, _))))))) = record { class = id c; result = outcome_of t; name = id m; params = maybe_types_of ts }

-- the mode of a call on a receiver
abbrev pub mode_by : Lead → Mode
mode_by lead.SpecialInvoke = mode.Special
mode_by lead.VirtualInvoke = mode.Virtual
mode_by _ = mode.Interface

-- a call: on a receiver, on a class, or a dynamic one
abbrev pub invoke_of : Tree invoke → Invoke
invoke_of (OnReceiver, (w, (x, (_, (m, (_, (is, _))))))) = invokes.Plain (mode_by w.lead) (Some (id x)) (msig_of m) (args_of is)
invoke_of (OnClass, (_, (m, (_, (is, _))))) = invokes.Plain mode.Static None (msig_of m) (args_of is)
invoke_of (Dynamic, _) = invokes.Dynamic

-- the pairs of brackets behind the type of a `newmultiarray`, of which the first stands with the end of that type
abbrev pub owns_of : Tree first_own → List (Tree own) → List (Tree own)
owns_of (_, (o, _)) more = o ∷ more

-- how many lengths stand before the first that is left out
abbrev pub sized_of : List (Tree own) → ℕ
sized_of [] = 0
sized_of ((_, (None, _)) ∷ more) = 0
sized_of ((_, (Some _, _)) ∷ more) = 1 + sized_of more

-- a `newmultiarray`: the written type has a pair of brackets more for each own pair that isn't counted as sized
abbrev pub multi_of : Base → Between 254 (Tree pair) (Tree first_own) (Tree own) → Expr
multi_of b m = let owns = owns_of m.middle m.after in
    exprs.NewMulti (record { base = b; dims = length m.before + (length owns - sized_of owns) }) (sized_of owns)

-- the operators that divide
abbrev pub is_division : Lead → Bool
is_division lead.Slash = true
is_division lead.Percent = true
is_division _ = false

-- an expression
abbrev pub expr_of : Tree expr → Expr
expr_of (UseExpr, (i, _)) = exprs.Use (imm_of i)
expr_of (NewExpr, (_, (x, _))) = exprs.New (id x)
expr_of (ArrayExpr, (_, (_, (t, _)))) = exprs.NewArray (ty_of t)
expr_of (MultiExpr, (_, (_, (b, (m, _))))) = multi_of (base_by b.lead b.text) m
expr_of (CastExpr, (_, (t, (_, (i, _))))) = exprs.Cast (ty_of t) (imm_of i)
expr_of (InstanceExpr, _) = exprs.Numeric false
expr_of (LengthExpr, (_, (i, _))) = exprs.Length (imm_of i)
expr_of (NegExpr, _) = exprs.Numeric false
expr_of (BinaryExpr, (_, (o, _))) = exprs.Numeric (is_division o.lead)
expr_of (FieldExpr, (x, (_, (s, _)))) = exprs.Field (id x) (fsig_of s)
expr_of (StaticExpr, (s, _)) = exprs.Static (fsig_of s)
expr_of (CellExpr, (x, _)) = exprs.Cell (id x)
expr_of (InvokeExpr, (v, _)) = exprs.Invoke (invoke_of v)

-- the label of a case
abbrev pub case_of : Tree case_line → NameId
case_of (_, (_, (_, (_, (_, (l, _)))))) = id l

-- the labels of the cases in written order, and the default's last, as it is written
abbrev pub switch_of : List (Tree case_line) → ℕ → List NameId
switch_of cases l = map case_of cases ++ id l ∷ []

-- a statement
abbrev pub stmt_of : Tree stmt → Stmt
stmt_of (ThisStmt, (x, _)) = stmts.This (id x)
stmt_of (ParamStmt, (x, (_, (n, _)))) = stmts.Param (id x) n
stmt_of (CaughtStmt, (x, _)) = stmts.Caught (id x)
stmt_of (AssignStmt, (x, (_, (e, _)))) = stmts.Assign (id x) (expr_of e)
stmt_of (PutFieldStmt, (x, (_, (s, (_, (i, _)))))) = stmts.PutField (id x) (fsig_of s) (imm_of i)
stmt_of (PutStaticStmt, (s, (_, (i, _)))) = stmts.PutStatic (fsig_of s) (imm_of i)
stmt_of (PutCellStmt, (x, (_, (_, (_, (_, (i, _))))))) = stmts.PutCell (id x) (imm_of i)
stmt_of (CallStmt, (v, _)) = stmts.Call (invoke_of v)
stmt_of (IfStmt, (_, (_, (_, (_, (_, (l, _))))))) = stmts.If (id l)
stmt_of (GotoStmt, (_, (l, _))) = stmts.Goto (id l)
stmt_of (SwitchStmt, (_, (_, (_, (_, (_, (cases, (_, (_, (_, (l, _))))))))))) = stmts.Switch (switch_of cases l)
stmt_of (ReturnStmt, (_, (i, _))) = stmts.Return (maybe_imm_of i)
stmt_of (RetStmt, _) = stmts.Ret
stmt_of (ThrowStmt, (_, (i, _))) = stmts.Throw (imm_of i)
stmt_of (MonitorStmt, (_, (i, _))) = stmts.Monitor (imm_of i)
stmt_of (SkipStmt, _) = stmts.Skip
