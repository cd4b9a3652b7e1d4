-- The names of a statement's parts are among those of the statement.
use Rattle.std.proofs.Common.{◌≡◌, ℕ, ◌++◌, [], ◌∷◌, All, Some, slice_get, flat_map, true, false, subst, arith}
use Rattle.std.specs.Option.{option_to_list}
use Rattle.std.proofs.lemmas.List.Elements.{All-tail}
use Rattle.jim_ast.specs.declared.names.NameId.{NameId}
use Rattle.jim_ast.specs.declared.syntax.Body.{Body}
use Rattle.jim_ast.specs.declared.syntax.Expr.{Expr}
use Rattle.jim_ast.specs.declared.syntax.Expr.TheVariants as expr
use Rattle.jim_ast.specs.declared.syntax.Invoke.{Invoke}
use Rattle.jim_ast.specs.declared.syntax.Invoke.TheVariants.{Plain, Dynamic}
use Rattle.jim_ast.specs.declared.syntax.MethodDecl.{MethodDecl}
use Rattle.jim_ast.specs.declared.syntax.Stmt.{Stmt}
use Rattle.jim_ast.specs.declared.syntax.Stmt.TheVariants as stmt
use Rattle.jim_ast.specs.declared.syntax.Trap.{Trap}
use Rattle.link_rules.specs.Conditions.{body_names, call_names, expr_names, field_sig_names, label_names, method_names, method_sig_names, operand_names, stmt_names, trap_names, type_names}
use Rattle.link_rules.specs.Statements.{Access, PlainCall, access_of, expr_access, expr_call, expr_new, new_of}
use Rattle.std.specs.Prelude.{option_and_then}
use Rattle.link_classes.proofs.Within.{All-left, All-right, part_all}
use Rattle.link_faults.specs.Parts.{plain_call, plain_of}

module _ (P : NameId → Type 0) where
  -- the field of an access
  in_expr_access : (e : Expr) (a : Access) → All P (expr_names e) → expr_access e ≡ Some a → All P (field_sig_names a.sig)
  in_expr_access (expr.Field base sig) a h is =
      let same : record { sig = sig; is_static = false } ≡ a = cc (is) in
      subst (λ (x : Access). All P (field_sig_names x.sig)) same (All-tail P base (field_sig_names sig) h)
  in_expr_access (expr.Static sig) a h is =
      let same : record { sig = sig; is_static = true } ≡ a = cc (is) in
      subst (λ (x : Access). All P (field_sig_names x.sig)) same h
  in_expr_access _ a h is = cc (is)

  pub in_access : (s : Stmt) (a : Access) → All P (stmt_names s) → access_of s ≡ Some a → All P (field_sig_names a.sig)
  in_access (stmt.Assign x e) a h is = in_expr_access e a (All-tail P x (expr_names e) h) is
  in_access (stmt.PutField base sig b) a h is =
      let same : record { sig = sig; is_static = false } ≡ a = cc (is) in
      let front = All-left P (base ∷ field_sig_names sig) (operand_names b) h in
      subst (λ (x : Access). All P (field_sig_names x.sig)) same (All-tail P base (field_sig_names sig) front)
  in_access (stmt.PutStatic sig b) a h is =
      let same : record { sig = sig; is_static = true } ≡ a = cc (is) in
      subst (λ (x : Access). All P (field_sig_names x.sig)) same (All-left P (field_sig_names sig) (operand_names b) h)
  in_access _ a h is = cc (is)

  -- the class that is made
  in_expr_new : (e : Expr) (class : NameId) → All P (expr_names e) → expr_new e ≡ Some class → P class
  in_expr_new (expr.New made) class h is = let same : made ≡ class = cc (is) in subst P same (h 0 made (omega arith))
  in_expr_new _ class h is = cc (is)

  pub in_new : (s : Stmt) (class : NameId) → All P (stmt_names s) → new_of s ≡ Some class → P class
  in_new (stmt.Assign x e) class h is = in_expr_new e class (All-tail P x (expr_names e) h) is
  in_new _ class h is = cc (is)

  -- the method of a call
  in_invoke : (i : Invoke) (c : PlainCall) → All P (call_names i) → plain_of i ≡ Some c → All P (method_sig_names c.sig)
  in_invoke (Plain mode receiver sig args) c h is =
      let same : record { mode = mode; receiver = receiver; sig = sig; args = args } ≡ c = cc (is) in
      let operands = flat_map operand_names args in
      let front = All-left P (option_to_list receiver ++ method_sig_names sig) operands h in
      subst (λ (x : PlainCall). All P (method_sig_names x.sig)) same (All-right P (option_to_list receiver) (method_sig_names sig) front)
  in_invoke Dynamic c h is = cc (is)

  in_expr_call : (e : Expr) (c : PlainCall) → All P (expr_names e) → option_and_then plain_of (expr_call e) ≡ Some c → All P (method_sig_names c.sig)
  in_expr_call (expr.Invoke call) c h is = in_invoke call c h is
  in_expr_call _ c h is = cc (is)

  pub in_call : (s : Stmt) (c : PlainCall) → All P (stmt_names s) → plain_call s ≡ Some c → All P (method_sig_names c.sig)
  in_call (stmt.Assign x e) c h is = in_expr_call e c (All-tail P x (expr_names e) h) is
  in_call (stmt.Call call) c h is = in_invoke call c h is
  in_call _ c h is = cc (is)

  -- the parts of a method with a body
  in_body : (m : MethodDecl) (body : Body) → All P (method_names m) → m.body ≡ Some body → All P (body_names body)
  in_body m body h is =
      let front = m.name ∷ type_names m.result ++ flat_map type_names m.params in
      let all : All P (flat_map body_names (option_to_list m.body)) = All-right P front (flat_map body_names (option_to_list m.body)) h in
      let one = subst (λ o. All P (flat_map body_names (option_to_list o))) is all in
      All-left P (body_names body) [] one

  pub in_stmt : (m : MethodDecl) (body : Body) (i : ℕ) (s : Stmt) → All P (method_names m) → m.body ≡ Some body → slice_get body.stmts i ≡ Some s → All P (stmt_names s)
  in_stmt m body i s h is there =
      let stmts = flat_map stmt_names body.stmts in
      let labels = flat_map label_names body.labels in
      let traps = flat_map trap_names body.traps in
      let front = All-left P (body.locals ++ stmts) labels (All-left P (body.locals ++ stmts ++ labels) traps (in_body m body h is)) in
      part_all P stmt_names body.stmts i s (All-right P body.locals stmts front) there

  pub in_trap : (m : MethodDecl) (body : Body) (i : ℕ) (trap : Trap) → All P (method_names m) → m.body ≡ Some body → slice_get body.traps i ≡ Some trap → All P (trap_names trap)
  in_trap m body i trap h is there =
      let stmts = flat_map stmt_names body.stmts in
      let labels = flat_map label_names body.labels in
      let traps = flat_map trap_names body.traps in
      part_all P trap_names body.traps i trap (All-right P (body.locals ++ stmts ++ labels) traps (in_body m body h is)) there
