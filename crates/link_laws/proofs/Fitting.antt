-- The code of a statement fits the method and the program, is well linked, and may be followed by what may follow the statement.
use Rattle.std.proofs.Common.{◌≡◌, ◌≢◌, ℕ, ◌<◌, not, Option, Some, None, List, [], ◌∷◌, length, IfSome, refl, sym, ap, ◌∙◌, subst, inl, inr, arith}
use Rattle.std.proofs.lemmas.Bool.{cases_eq, cases_lt, false_from_ne_true}
use Rattle.jim_ast.specs.declared.names.NameId.{NameId}
use Rattle.jim_ast.specs.declared.syntax.Body.{Body}
use Rattle.jim_ast.specs.declared.syntax.Expr.{Expr}
use Rattle.jim_ast.specs.declared.syntax.Expr.TheVariants as expr
use Rattle.jim_ast.specs.declared.syntax.Imm.{Imm}
use Rattle.jim_ast.specs.declared.syntax.Invoke.TheVariants.{Plain}
use Rattle.jim_ast.specs.declared.syntax.MethodSig.{MethodSig}
use Rattle.jim_ast.specs.declared.syntax.Mode.{Mode}
use Rattle.jim_ast.specs.declared.syntax.Stmt.{Stmt}
use Rattle.jim_ast.specs.declared.syntax.Stmt.TheVariants as stmt
use Rattle.link_rules.specs.declared.code.Arg.{Arg}
use Rattle.link_rules.specs.declared.code.Code.{Code}
use Rattle.link_rules.specs.declared.code.Code.TheVariants as code
use Rattle.link_rules.specs.declared.refusal.LinkKind.TheVariants as rule
use Rattle.link_rules.specs.Bodies.{MayFollow}
use Rattle.link_rules.specs.Classes.{DeclaredMethod}
use Rattle.link_rules.specs.Codes.{IsArg, IsAssignment, IsCall, IsCode, IsJump, IsLocal}
use Rattle.link_rules.specs.Conditions.{IsReadExpr, IsReadStmt}
use Rattle.link_rules.specs.Flow.{Next}
use Rattle.link_rules.specs.Keys.{HasReceiverByMode}
use Rattle.link_rules.specs.Linked.{LinkedMethod, LinkedProgram, scope_of}
use Rattle.lists.specs.Lists.{BothOrNone}
use Rattle.link_rules.specs.Names.{text_of}
use Rattle.link_rules.specs.Statements.{StmtAt, call_of}
use Rattle.link_rules.specs.WellLinked.{FitsArg, FitsCode, IsLocalOf, IsWellLinkedCode}
use Rattle.link_rules.specs.World.{World}
use Rattle.link_laws.proofs.Calls.{both_some, declared, mode_fits, settled, suits, target_below}
use Rattle.link_laws.proofs.Lists.{all_at, each_right}
use Rattle.link_laws.proofs.Parts.{arg_fits, args_fit, class_fits, field_fits, local_fits, maybe_arg_fits, new_instantiable, receiver_fits, static_fits}
use Rattle.link_laws.proofs.Stands.{IsMade, Stands}
use Rattle.link_laws.proofs.Targets.{one_target}

-- the code of a statement at an index is as it should be
pub record IsFit (p : LinkedProgram) (l : LinkedMethod) (body : Body) (index : ℕ) (s : Stmt) (c : Code) : Type 0 where
  pub fits : FitsCode p l c
  pub well : IsWellLinkedCode p c
  pub follows : (next : ℕ) → Next c index next → MayFollow body s index next

module _ (w : World) (p : LinkedProgram) (made : IsMade w p) (m : DeclaredMethod) (l : LinkedMethod) (st : Stands w p m l) (index : ℕ) where
  -- a local and an operand are in range
  local : (x : NameId) (to : ℕ) → IsLocal (scope_of w p m st.linked.body) x to → IsLocalOf l to
  local = local_fits w p made m l st

  operand : (a : Imm) (b : Arg) → IsArg (scope_of w p m st.linked.body) a b → FitsArg p l b
  operand = arg_fits w p made m l st

  -- a call
  fit_call : (s : Stmt) → StmtAt m index s → (mode mode_too : Mode) (y : Option NameId) (sig : MethodSig) (args : List Imm)
      → call_of s ≡ Some (Plain mode y sig args) → HasReceiverByMode mode y
      → (to : Option ℕ) (class key : ℕ) (receiver : Option ℕ) (codes : List Arg) (targets : List ℕ) → mode_too ≡ mode → IfSome to (IsLocalOf l) → BothOrNone (IsLocal (scope_of w p m st.linked.body)) y receiver
      → IsCall (scope_of w p m st.linked.body) mode sig args class key codes targets
      → FitsCode p l (code.Call to mode_too class key receiver codes targets) × IsWellLinkedCode p (code.Call to mode_too class key receiver codes targets)
  fit_call s here mode mode_too y sig args is_call has to class key receiver codes targets same to_fits base call =
      let some = both_some (IsLocal (scope_of w p m st.linked.body)) y receiver base in
      subst (λ (md : Mode). FitsCode p l (code.Call to md class key receiver codes targets) × IsWellLinkedCode p (code.Call to md class key receiver codes targets)) (sym same) (
        (
          to_fits,
          class_fits w p made (text_of m.names sig.class) class call.is_class,
          receiver_fits w p made m l st y receiver base,
          mode_fits w p made m l st index s here mode y sig args is_call class key codes targets call receiver some has,
          args_fit w p made m l st args codes call.are_args,
          all_at (λ target. target < length p.methods) targets (target_below w p made m l st index s here mode y sig args is_call class key codes targets call),
        ),
        (
          all_at _ targets (suits w p made m l st index s here mode y sig args is_call class key codes targets call receiver some has),
          one_target w p made mode (text_of m.names sig.class) class key call.rows targets call.is_class
              (declared w p made m l st index s here mode y sig args is_call class key codes targets call)
              (settled w p made m l st index s here mode y sig args is_call class key codes targets call) call.are_rows call.numbered.as_many,
        ),
      )

  -- an assignment
  fit_assign : (x : NameId) (e : Expr) (c : Code) → StmtAt m index (stmt.Assign x e) → IsReadExpr e → IsAssignment (scope_of w p m st.linked.body) x e c
      → IsFit p l st.linked.body index (stmt.Assign x e) c
  fit_assign x (expr.Use a) (code.Copy to b) here read h = record { fits = (local x to h.0, operand a b h.1); well = tt; follows = λ next e. inl (tt, e) }
  fit_assign x (expr.New class) (code.New to number) here read h =
      record {
        fits = (local x to h.0, class_fits w p made (text_of m.names class) number h.1);
        well = new_instantiable w p made m l st index x class number here h.1;
        follows = λ next e. inl (tt, e);
      }
  fit_assign x (expr.NewArray ty) (code.NewArray to) here read h = record { fits = local x to h; well = tt; follows = λ next e. inl (tt, e) }
  fit_assign x (expr.NewMulti ty sized) (code.NewMulti to levels) here read h =
      let same = h.1 in
      let some : 0 < levels = elim (cases_eq sized 0) [
        | inl none ↦ absurd (st.allowed index rule.NestedArray (x, ty, subst (λ n. StmtAt m index (stmt.Assign x (expr.NewMulti ty n))) none here))
        | inr other ↦ omega (arith, same, other)
      ] in
      record { fits = (local x to h.0, some, omega (arith, same, read)); well = tt; follows = λ next e. inl (tt, e) }
  fit_assign x (expr.Cast ty a) (code.Cast to b) here read h = record { fits = (local x to h.0, operand a b h.1); well = tt; follows = λ next e. inl (tt, e) }
  fit_assign x (expr.Cast ty a) (code.Copy to b) here read h = record { fits = (local x to h.0, operand a b h.1); well = tt; follows = λ next e. inl (tt, e) }
  fit_assign x (expr.Length a) (code.Length to b) here read h = record { fits = (local x to h.0, operand a b h.1); well = tt; follows = λ next e. inl (tt, e) }
  fit_assign x (expr.Numeric divides) (code.Numeric to d) here read h = record { fits = local x to h.0; well = tt; follows = λ next e. inl (tt, e) }
  fit_assign x (expr.Field y sig) (code.Load to base field) here read h =
      record { fits = (local x to h.0, local y base h.1, field_fits w p made m l st sig field h.2); well = tt; follows = λ next e. inl (tt, e) }
  fit_assign x (expr.Static sig) (code.LoadStatic to field) here read h =
      record { fits = (local x to h.0, static_fits w p made m l st sig field h.1); well = tt; follows = λ next e. inl (tt, e) }
  fit_assign x (expr.Cell y) (code.LoadCell to base) here read h = record { fits = (local x to h.0, local y base h.1); well = tt; follows = λ next e. inl (tt, e) }
  fit_assign x (expr.Invoke (Plain mode y sig args)) (code.Call (Some to) mode_too class key receiver codes targets) here read h =
      let fit = fit_call (stmt.Assign x (expr.Invoke (Plain mode y sig args))) here mode mode_too y sig args refl read (Some to) class key receiver codes targets h.1 (local x to h.0) h.2 h.3 in
      record { fits = fit.0; well = fit.1; follows = λ next e. inl (tt, e) }
  fit_assign x e c here read h = elim h [ ]

  -- a statement
  pub fit : (s : Stmt) (c : Code) → StmtAt m index s → IsReadStmt s → IsCode (scope_of w p m st.linked.body) s c → IsFit p l st.linked.body index s c
  fit (stmt.This x) (code.This to) here read h =
      record {
        fits = (local x to h, st.linked.has_this ∙ ap not (false_from_ne_true m.decl.is_static (λ e. st.allowed index rule.BadIdentity (inl (x, here, e)))));
        well = tt;
        follows = λ next e. inl (tt, e);
      }
  fit (stmt.Param x number) (code.Param to number_too) here read h =
      let same = h.1 in
      let params = st.linked.params in
      let inside : number_too < l.params = elim (cases_lt number (length m.decl.params)) [
        | inl less ↦ omega arith
        | inr more ↦ absurd (st.allowed index rule.BadIdentity (inr (x, number, here, more)))
      ] in
      record { fits = (local x to h.0, inside); well = tt; follows = λ next e. inl (tt, e) }
  fit (stmt.Caught x) (code.Caught to) here read h = record { fits = local x to h; well = tt; follows = λ next e. inl (tt, e) }
  fit (stmt.Assign x e) c here read h = fit_assign x e c here read h
  fit (stmt.PutField y sig a) (code.Store base field b) here read h =
      record { fits = (local y base h.0, field_fits w p made m l st sig field h.1, operand a b h.2); well = tt; follows = λ next e. inl (tt, e) }
  fit (stmt.PutStatic sig a) (code.StoreStatic field b) here read h = record { fits = (static_fits w p made m l st sig field h.0, operand a b h.1); well = tt; follows = λ next e. inl (tt, e) }
  fit (stmt.PutCell y a) (code.StoreCell base b) here read h = record { fits = (local y base h.0, operand a b h.1); well = tt; follows = λ next e. inl (tt, e) }
  fit (stmt.Call (Plain mode y sig args)) (code.Call None mode_too class key receiver codes targets) here read h =
      let fit = fit_call (stmt.Call (Plain mode y sig args)) here mode mode_too y sig args refl read None class key receiver codes targets h.0 tt h.1 h.2 in
      record { fits = fit.0; well = fit.1; follows = λ next e. inl (tt, e) }
  fit (stmt.If label) (code.If jump) here read h =
      record { fits = tt; well = tt; follows = λ next e. elim e [ inl a ↦ inl (tt, a) | inr a ↦ inr (label, (0, refl), subst (IsJump (scope_of w p m st.linked.body) label) (sym a) h) ] }
  fit (stmt.Goto label) (code.Goto jump) here read h =
      record { fits = tt; well = tt; follows = λ next e. inr (label, (0, refl), subst (IsJump (scope_of w p m st.linked.body) label) (sym e) h) }
  fit (stmt.Switch labels) (code.Switch jumps) here read h =
      record {
        fits = λ e. some labels jumps h.as_many read e;
        well = tt;
        follows = λ next e. let label = each_right (IsJump (scope_of w p m st.linked.body)) labels jumps e.0 next h e.1 in inr (label.0, (e.0, label.1), label.2);
      }
    where
      some : (xs : List NameId) (ys : List ℕ) → length xs ≡ length ys → xs ≢ [] → ys ≢ []
      some [] ys e full is = full refl
      some (x ∷ xs) ys e full is = let none = ap (length {A = ℕ}) is in absurd (omega arith)
  fit (stmt.Return a) (code.Return b) here read h = record { fits = maybe_arg_fits w p made m l st a b h; well = tt; follows = λ next e. absurd e }
  fit (stmt.Throw a) (code.Throw b) here read h = record { fits = operand a b h; well = tt; follows = λ next e. absurd e }
  fit (stmt.Monitor a) (code.Monitor b) here read h = record { fits = operand a b h; well = tt; follows = λ next e. inl (tt, e) }
  fit stmt.Skip code.Skip here read h = record { fits = tt; well = tt; follows = λ next e. inl (tt, e) }
  fit s c here read h = elim h [ ]
