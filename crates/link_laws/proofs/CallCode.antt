-- The code of a call, and which classes and keys it names.
use Rattle.std.proofs.Common.{◌≡◌, ℕ, Option, Some, None, List, slice_get, refl, sym, ◌∙◌, subst}
use Rattle.std.proofs.lemmas.Option.{same_Some}
use Rattle.lists.proofs.Joined.{first_one}
use Rattle.jim_ast.specs.declared.names.NameId.{NameId}
use Rattle.jim_ast.specs.declared.syntax.Body.{Body}
use Rattle.jim_ast.specs.declared.syntax.Expr.{Expr}
use Rattle.jim_ast.specs.declared.syntax.Expr.TheVariants as expr
use Rattle.jim_ast.specs.declared.syntax.Imm.{Imm}
use Rattle.jim_ast.specs.declared.syntax.Invoke.{Invoke}
use Rattle.jim_ast.specs.declared.syntax.Invoke.TheVariants.{Plain, Dynamic}
use Rattle.jim_ast.specs.declared.syntax.MethodSig.{MethodSig}
use Rattle.jim_ast.specs.declared.syntax.Mode.{Mode}
use Rattle.jim_ast.specs.declared.syntax.Stmt.{Stmt}
use Rattle.jim_ast.specs.declared.syntax.Stmt.TheVariants as stmt
use Rattle.link_rules.specs.declared.code.Arg.{Arg}
use Rattle.link_rules.specs.declared.code.Code.{Code}
use Rattle.link_rules.specs.declared.code.Code.TheVariants as code
use Rattle.link_rules.specs.declared.refusal.LinkKind.TheVariants as rule
use Rattle.link_rules.specs.Classes.{DeclaredMethod, methods_of}
use Rattle.link_rules.specs.Codes.{IsAssignment, IsCall, IsCode, IsMethodNumber, Scope}
use Rattle.link_rules.specs.Keys.{HasMethodKey, called_key}
use Rattle.link_rules.specs.Linked.{LinkedMethod, LinkedProgram, scope_of}
use Rattle.link_rules.specs.Statements.{call_of, expr_call}
use Rattle.link_rules.specs.Targets.{Calls, MayRun}
use Rattle.link_rules.specs.WellLinked.{HasTarget}
use Rattle.link_rules.specs.World.{World}
use Rattle.link_laws.proofs.Lists.{each_left}
use Rattle.link_laws.proofs.Stands.{IsMade, Stands}
use Rattle.link_laws.proofs.OneClass.{class_one}

-- the code is that of this call
pub record IsCallCode (in_scope : Scope) (mode : Mode) (sig : MethodSig) (args : List Imm) (c : Code) : Type 0 where
  pub to : Option ℕ
  pub mode_too : Mode
  pub class : ℕ
  pub key : ℕ
  pub receiver : Option ℕ
  pub codes : List Arg
  pub targets : List ℕ
  pub is : c ≡ code.Call to mode_too class key receiver codes targets
  pub call : IsCall in_scope mode sig args class key codes targets

-- the code is that of the call, if it is plain
abbrev CodesInvoke : Scope → Invoke → Code → Type 0
CodesInvoke in_scope (Plain mode y sig args) c = IsCallCode in_scope mode sig args c
CodesInvoke in_scope Dynamic c = Unit {0}

-- the code of an expression that calls
expr_call_code : (in_scope : Scope) (x : NameId) (e : Expr) (c : Code) (i : Invoke) → expr_call e ≡ Some i → IsAssignment in_scope x e c
    → CodesInvoke in_scope i c
expr_call_code in_scope x (expr.Invoke (Plain mode y sig args)) (code.Call (Some to) mode_too class key receiver codes targets) i e h =
    subst (λ j. CodesInvoke in_scope j (code.Call (Some to) mode_too class key receiver codes targets)) (same_Some (Plain mode y sig args) i e) (record {
      to = Some to;
      mode_too = mode_too;
      class = class;
      key = key;
      receiver = receiver;
      codes = codes;
      targets = targets;
      is = refl;
      call = h.3;
    })
expr_call_code in_scope x (expr.Invoke (Plain mode y sig args)) c i e h = elim h [ ]
expr_call_code in_scope x (expr.Invoke Dynamic) c i e h = elim h [ ]
expr_call_code in_scope x e c i is h = cc

-- the code of a statement that calls
call_code : (in_scope : Scope) (s : Stmt) (c : Code) (i : Invoke) → call_of s ≡ Some i → IsCode in_scope s c → CodesInvoke in_scope i c
call_code in_scope (stmt.Assign x e) c i is h = expr_call_code in_scope x e c i is h
call_code in_scope (stmt.Call (Plain mode y sig args)) (code.Call None mode_too class key receiver codes targets) i e h =
    subst (λ j. CodesInvoke in_scope j (code.Call None mode_too class key receiver codes targets)) (same_Some (Plain mode y sig args) i e) (record {
      to = None;
      mode_too = mode_too;
      class = class;
      key = key;
      receiver = receiver;
      codes = codes;
      targets = targets;
      is = refl;
      call = h.2;
    })
call_code in_scope (stmt.Call (Plain mode y sig args)) c i e h = elim h [ ]
call_code in_scope (stmt.Call Dynamic) c i e h = elim h [ ]
call_code in_scope s c i is h = cc

module _ (w : World) (p : LinkedProgram) (made : IsMade w p) where
  -- what a call may run is a target of its code
  pub target_of : (m : DeclaredMethod) (l : LinkedMethod) → Stands w p m l → (number : ℕ) → slice_get p.methods number ≡ Some l → (index row : ℕ)
      → Calls w m index row
      → (target : ℕ) × (slice_get p.method_rows target ≡ Some row) × HasTarget p number index target
  target_of m l st number there index row calls =
      let at = calls.names.at in
      let body : at.here.body ≡ st.linked.body = same_Some at.here.body st.linked.body (sym at.here.in_body ∙ st.linked.in_body) in
      let s = subst (λ (b : Body). slice_get b.stmts index ≡ Some at.stmt) body at.here.there in
      let c = each_left (IsCode (scope_of w p m st.linked.body)) st.linked.body.stmts l.code index at.stmt st.linked.code s in
      let coded : IsCallCode (scope_of w p m st.linked.body) at.call.mode at.call.sig at.call.args c.0 =
      call_code (scope_of w p m st.linked.body) at.stmt c.0 (Plain at.call.mode at.call.receiver at.call.sig at.call.args) at.is_call c.2 in
      let class = class_one w made.link.accepted _ calls.names.class coded.class calls.names.is_class coded.call.is_class in
      let key = first_one _ (HasMethodKey (methods_of w.classes) (called_key m.names at.call.mode at.call.sig)) calls.names.key coded.key calls.names.is_key coded.call.is_key in
      let runs = subst (λ n. MayRun w at.call.mode n coded.key row) class (subst (λ n. MayRun w at.call.mode calls.names.class n row) key calls.runs) in
      let listed = (coded.call.are_rows.each row).1 runs in
      let target = each_left (IsMethodNumber (scope_of w p m st.linked.body)) coded.call.rows coded.targets listed.0 row coded.call.numbered listed.1 in (
        target.0,
        target.2,
        record {
          method = l;
          there = there;
          to = coded.to;
          mode = coded.mode_too;
          class = coded.class;
          key = coded.key;
          receiver = coded.receiver;
          args = coded.codes;
          targets = coded.targets;
          call = cc (c.1, coded.is);
          has = (listed.0, target.1);
        },
      )
