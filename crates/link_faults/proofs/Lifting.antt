-- What refuses a method at an index is what refuses the statement there, or the body beside its statements.
use Rattle.std.proofs.Common.{◌≡◌, ℕ, ◌<◌, ◌⊎◌, Some, List, length, slice_get, refl, sym, subst, inl, inr}
use Rattle.std.specs.Prelude.{IsSomeAnd}
use Rattle.lists.proofs.Places.{slice_get-below}
use Rattle.jim_ast.specs.declared.names.NameId.{NameId}
use Rattle.jim_ast.specs.declared.syntax.Body.{Body}
use Rattle.jim_ast.specs.declared.syntax.Expr.{Expr}
use Rattle.jim_ast.specs.declared.syntax.Expr.TheVariants as expr
use Rattle.jim_ast.specs.declared.syntax.Invoke.{Invoke}
use Rattle.jim_ast.specs.declared.syntax.Invoke.TheVariants.{Plain, Dynamic}
use Rattle.jim_ast.specs.declared.syntax.Stmt.{Stmt}
use Rattle.jim_ast.specs.declared.syntax.Stmt.TheVariants as stmt
use Rattle.link_rules.specs.declared.refusal.LinkKind.{LinkKind}
use Rattle.link_rules.specs.declared.refusal.LinkKind.TheVariants as rule
use Rattle.link_rules.specs.Bodies.{HasNoLabel, MayFollow}
use Rattle.link_rules.specs.Classes.{DeclaredMethod, IsDeclared}
use Rattle.link_rules.specs.Faults.{AccessAt, CallsIn, IsOfThreads, IsReflective, MakesObject, LacksFirstSize, NamesNoParam, NamesNoReceiver, TakesNoResult}
use Rattle.link_rules.specs.Names.{text_of}
use Rattle.link_rules.specs.Reach.{RefusesAt}
use Rattle.link_rules.specs.Statements.{Access, HasBody, PlainCall, PlainCallAt, StmtAt, access_of, new_of}
use Rattle.link_rules.specs.Targets.{CallAt}
use Rattle.link_rules.specs.World.{World}
use Rattle.link_faults.specs.Progress.{RefusesBody}
use Rattle.link_faults.specs.Parts.{AreNamed, plain_call}
use Rattle.link_faults.specs.Sites.{AssignsVoid, FindsNo, HasWrongCount, IsAmbiguousCall, IsBadIdentity, IsMissing, IsUnsized, IsUnsizedExpr, IsNotConcrete, IsRet, IsUndeclared, IsUndeclaredCall, IsVoidCall, IsVoidExpr, RefusesStmt, RunsNative}
use Rattle.link_faults.proofs.BodyFaults.{one_body}
use Rattle.link_faults.proofs.StmtParts.{and_some, is_call_of, missing_by_parts, missing_local, plain_call_is, some_and}

module _ (w : World) (m : DeclaredMethod) (body : Body) (in_body : HasBody m body) (index : ℕ) where
  -- a statement of the body
  abbrev pub stmt_at : (s : Stmt) → slice_get body.stmts index ≡ Some s → StmtAt m index s
  stmt_at s there = record { body = body; in_body = in_body; there = there }

  abbrev pub call_at : (s : Stmt) → slice_get body.stmts index ≡ Some s → (c : PlainCall) → plain_call s ≡ Some c → PlainCallAt m index
  call_at s there c is = record { stmt = s; here = stmt_at s there; call = c; is_call = is_call_of s c is }

  abbrev pub calls_in : (s : Stmt) → slice_get body.stmts index ≡ Some s → (c : PlainCall) → plain_call s ≡ Some c → CallsIn m index (text_of m.names c.sig.class)
  calls_in s there c is = record { at = call_at s there c is; named = refl }

  abbrev pub makes : (s : Stmt) → slice_get body.stmts index ≡ Some s → (class : NameId) → new_of s ≡ Some class → MakesObject m index (text_of m.names class)
  makes s there class is = record { stmt = s; here = stmt_at s there; class = class; makes = is; named = refl }

  abbrev pub access_at : (s : Stmt) → slice_get body.stmts index ≡ Some s → (a : Access) → access_of s ≡ Some a → AccessAt m index
  access_at s there a is = record { stmt = s; here = stmt_at s there; access = a; accesses = is }

  abbrev pub named_call : (s : Stmt) → slice_get body.stmts index ≡ Some s → (c : PlainCall) → plain_call s ≡ Some c → (class key : ℕ) → AreNamed w m.names c class key → CallAt w m index
  named_call s there c is class key named = record { at = call_at s there c is; class = class; is_class = named.is_class; key = key; is_key = named.is_key }

  -- what refuses the statement refuses the method there

  bad_identity : (s : Stmt) → slice_get body.stmts index ≡ Some s → IsBadIdentity m.decl s → NamesNoReceiver m index ⊎ NamesNoParam m index
  bad_identity (stmt.This x) there h = inl (x, stmt_at (stmt.This x) there, h)
  bad_identity (stmt.Param x number) there h = inr (x, number, stmt_at (stmt.Param x number) there, h)
  bad_identity _ there h = absurd h

  ret : (s : Stmt) → slice_get body.stmts index ≡ Some s → IsRet s → StmtAt m index stmt.Ret
  ret stmt.Ret there h = stmt_at stmt.Ret there
  ret _ there h = absurd h

  nested : (s : Stmt) → slice_get body.stmts index ≡ Some s → IsUnsized s → LacksFirstSize m index
  nested (stmt.Assign x e) there h = of_expr e there h
    where
      of_expr : (e : Expr) → slice_get body.stmts index ≡ Some (stmt.Assign x e) → IsUnsizedExpr e → LacksFirstSize m index
      of_expr (expr.NewMulti ty sized) there h =
          (x, ty, subst (λ n. StmtAt m index (stmt.Assign x (expr.NewMulti ty n))) h (stmt_at (stmt.Assign x (expr.NewMulti ty sized)) there))
      of_expr _ there h = absurd h
  nested _ there h = absurd h

  void_call : (x : NameId) (call : Invoke) → slice_get body.stmts index ≡ Some (stmt.Assign x (expr.Invoke call)) → IsVoidCall call → TakesNoResult m index
  void_call x (Plain mode receiver sig args) there h =
      record { to = x; mode = mode; receiver = receiver; sig = sig; args = args; here = stmt_at (stmt.Assign x (expr.Invoke (Plain mode receiver sig args))) there; void = h }
  void_call x Dynamic there h = absurd h

  void : (s : Stmt) → slice_get body.stmts index ≡ Some s → AssignsVoid s → TakesNoResult m index
  void (stmt.Assign x e) there h = of_expr e there h
    where
      of_expr : (e : Expr) → slice_get body.stmts index ≡ Some (stmt.Assign x e) → IsVoidExpr e → TakesNoResult m index
      of_expr (expr.Invoke call) there h = void_call x call there h
      of_expr _ there h = absurd h
  void _ there h = absurd h

  pub refuses_at : (s : Stmt) → slice_get body.stmts index ≡ Some s → (kind : LinkKind) → RefusesStmt w m body index s kind → RefusesAt w m index kind
  refuses_at s there rule.UnknownLabel h = inl (record { stmt = s; here = stmt_at s there; label = h.0; named = h.1; missing = h.2 })
  refuses_at s there rule.FallsOff h = inl (record { stmt = s; here = stmt_at s there; followed = h })
  refuses_at s there rule.UnknownLocal h = let l = missing_local body.locals s h in record { stmt = s; here = stmt_at s there; local = l.0; named = l.1; missing = l.2 }
  refuses_at s there rule.BadIdentity h = bad_identity s there h
  refuses_at s there rule.DynamicInvoke h = (s, stmt_at s there, h)
  refuses_at s there rule.Reflection h = let c = some_and (plain_call s) (λ c. IsReflective (text_of m.names c.sig.class)) h in (text_of m.names c.0.sig.class, calls_in s there c.0 c.1, c.2)
  refuses_at s there rule.Threads (inl h) = let n = some_and (new_of s) (λ class. IsOfThreads w (text_of m.names class)) h in (text_of m.names n.0, inl (makes s there n.0 n.1), n.2)
  refuses_at s there rule.Threads (inr h) = let c = some_and (plain_call s) (λ c. IsOfThreads w (text_of m.names c.sig.class)) h in (text_of m.names c.0.sig.class, inr (calls_in s there c.0 c.1), c.2)
  refuses_at s there rule.RetStatement h = ret s there h
  refuses_at s there rule.NestedArray h = nested s there h
  refuses_at s there rule.UnknownClass (inl h) = let n = some_and (new_of s) (IsUndeclared w m.names) h in inl (text_of m.names n.0, inl (makes s there n.0 n.1), n.2)
  refuses_at s there rule.UnknownClass (inr (inl h)) =
      let c = some_and (plain_call s) (λ c. IsUndeclared w m.names c.sig.class) h in inl (text_of m.names c.0.sig.class, inr (inl (calls_in s there c.0 c.1)), c.2)
  refuses_at s there rule.UnknownClass (inr (inr h)) =
      let a = some_and (access_of s) (λ a. IsUndeclared w m.names a.sig.class) h in inl (text_of m.names a.0.sig.class, inr (inr (access_at s there a.0 a.1, refl)), a.2)
  refuses_at s there rule.UnknownField h =
      let a = some_and (access_of s) (FindsNo w m.names) h in
      record { at = access_at s there a.0 a.1; class = a.2.class; is_class = a.2.is_class; key = a.2.key; is_key = a.2.is_key; none = a.2.none }
  refuses_at s there rule.AbstractNew h =
      let n = some_and (new_of s) (λ class. IsNotConcrete w (text_of m.names class)) h in
      record { name = text_of m.names n.0; makes = makes s there n.0 n.1; number = n.2.number; named = n.2.named; not_concrete = n.2.not_concrete }
  refuses_at s there rule.UndeclaredCallee h =
      let c = some_and (plain_call s) (IsUndeclaredCall w m.names) h in
      (named_call s there c.0 c.1 c.2.0 c.2.1 c.2.2, c.2.3)
  refuses_at s there rule.BadArguments (inl h) = let c = some_and (plain_call s) HasWrongCount h in inl (call_at s there c.0 c.1, c.2)
  refuses_at s there rule.BadArguments (inr h) = inr (void s there h)
  refuses_at s there rule.NativeCallee h =
      let c = some_and (plain_call s) (RunsNative w m.names) h in
      let runs = c.2.1 in
      let native = c.2.2 in
      record { row = c.2.0; calls = record { names = named_call s there c.0 c.1 runs.0 runs.1 runs.2; runs = runs.3 }; callee = native.0; there = native.1; native = native.2 }
  refuses_at s there rule.AmbiguousDefault h =
      let c = some_and (plain_call s) (IsAmbiguousCall w m.names) h in
      (named_call s there c.0 c.1 c.2.0 c.2.1 c.2.2, c.2.3)
  refuses_at s there _ h = absurd h

  -- a statement of the method is one of the body
  pub placed : {s : Stmt} → StmtAt m index s → (index < length body.stmts) × (slice_get body.stmts index ≡ Some s)
  placed {s} h =
      let e = one_body w m body in_body h.body h.in_body in
      let there = subst (λ (b : Body). slice_get b.stmts index ≡ Some s) e h.there in
      (slice_get-below body.stmts index s there, there)

  -- a statement of the body that a rule refuses
  abbrev pub StmtRefused : LinkKind → Type 0
  StmtRefused kind = (s : Stmt) × (index < length body.stmts) × (slice_get body.stmts index ≡ Some s) × RefusesStmt w m body index s kind

  refused : {s : Stmt} (kind : LinkKind) → StmtAt m index s → RefusesStmt w m body index s kind → StmtRefused kind
  refused {s} kind h r = let at = placed h in (s, at.0, at.1, r)

  -- the parts of a statement that are named by records
  calls : {name : List ℕ} (P : List ℕ → Type 0) (c : CallsIn m index name) → P name → IsSomeAnd (plain_call c.at.stmt) (λ c. P (text_of m.names c.sig.class))
  calls P c p = and_some (plain_call c.at.stmt) (λ c. P (text_of m.names c.sig.class)) c.at.call (plain_call_is c.at.stmt c.at.call c.at.is_call) (subst P (sym c.named) p)

  made : {name : List ℕ} (P : List ℕ → Type 0) (o : MakesObject m index name) → P name → IsSomeAnd (new_of o.stmt) (λ class. P (text_of m.names class))
  made P o p = and_some (new_of o.stmt) (λ class. P (text_of m.names class)) o.class o.makes (subst P (sym o.named) p)

  names : (c : CallAt w m index) → AreNamed w m.names c.at.call c.class c.key
  names c = record { is_class = c.is_class; is_key = c.is_key }

  -- what refuses the method there refuses the statement there, or the body
  pub refused_there : (kind : LinkKind) → RefusesAt w m index kind → RefusesBody w m index kind ⊎ StmtRefused kind
  refused_there rule.DuplicateLocal h = inl h
  refused_there rule.DuplicateLabel h = inl h
  refused_there rule.UnknownLabel (inl h) =
      let e = one_body w m body in_body h.here.body h.here.in_body in
      inr (refused rule.UnknownLabel h.here (h.label, h.named, subst (λ (b : Body). HasNoLabel b.labels h.label) e h.missing))
  refused_there rule.UnknownLabel (inr h) = inl h
  refused_there rule.FallsOff (inl h) =
      let e = one_body w m body in_body h.here.body h.here.in_body in
      inr (refused rule.FallsOff h.here (subst (λ (b : Body). MayFollow b h.stmt index (length b.stmts)) e h.followed))
  refused_there rule.FallsOff (inr h) = inl h
  refused_there rule.UnknownLocal h =
      let e = one_body w m body in_body h.here.body h.here.in_body in
      inr (refused rule.UnknownLocal h.here (missing_by_parts body.locals h.stmt h.local h.named (subst (λ (b : Body). IsMissing b.locals h.local) e h.missing)))
  refused_there rule.BadIdentity (inl (x, here, h)) = inr (refused rule.BadIdentity here h)
  refused_there rule.BadIdentity (inr (x, number, here, h)) = inr (refused rule.BadIdentity here h)
  refused_there rule.DynamicInvoke (s, here, h) = inr (refused rule.DynamicInvoke here h)
  refused_there rule.Reflection (name, c, h) = inr (refused rule.Reflection c.at.here (calls IsReflective c h))
  refused_there rule.Threads (name, inl o, h) = inr (refused rule.Threads o.here (inl (made (IsOfThreads w) o h)))
  refused_there rule.Threads (name, inr c, h) = inr (refused rule.Threads c.at.here (inr (calls (IsOfThreads w) c h)))
  refused_there rule.RetStatement h = inr (refused rule.RetStatement h tt)
  refused_there rule.NestedArray (x, ty, here) = inr (refused rule.NestedArray here refl)
  refused_there rule.UnknownClass (inl (name, inl o, h)) = inr (refused rule.UnknownClass o.here (inl (made (λ text. IsDeclared w.classes text → ⊥) o h)))
  refused_there rule.UnknownClass (inl (name, inr (inl c), h)) = inr (refused rule.UnknownClass c.at.here (inr (inl (calls (λ text. IsDeclared w.classes text → ⊥) c h))))
  refused_there rule.UnknownClass (inl (name, inr (inr (a, named)), h)) =
      inr (refused rule.UnknownClass a.here (inr (inr (and_some (access_of a.stmt) (λ a. IsUndeclared w m.names a.sig.class) a.access a.accesses (subst (λ text. IsDeclared w.classes text → ⊥) (sym named) h)))))
  refused_there rule.UnknownClass (inr h) = inl h
  refused_there rule.UnknownField h =
      let a = h.at in
      inr (refused rule.UnknownField a.here (and_some (access_of a.stmt) (FindsNo w m.names) a.access a.accesses (record { class = h.class; is_class = h.is_class; key = h.key; is_key = h.is_key; none = h.none })))
  refused_there rule.AbstractNew h =
      inr (refused rule.AbstractNew h.makes.here (made (IsNotConcrete w) h.makes (record { number = h.number; named = h.named; not_concrete = h.not_concrete })))
  refused_there rule.UndeclaredCallee (c, h) =
      inr (refused rule.UndeclaredCallee c.at.here (and_some (plain_call c.at.stmt) (IsUndeclaredCall w m.names) c.at.call (plain_call_is c.at.stmt c.at.call c.at.is_call) (c.class, c.key, names c, h)))
  refused_there rule.BadArguments (inl (at, h)) =
      inr (refused rule.BadArguments at.here (inl (and_some (plain_call at.stmt) HasWrongCount at.call (plain_call_is at.stmt at.call at.is_call) h)))
  refused_there rule.BadArguments (inr h) = inr (refused rule.BadArguments h.here (inr h.void))
  refused_there rule.NativeCallee h =
      let c = h.calls.names in
      inr (refused rule.NativeCallee c.at.here (and_some (plain_call c.at.stmt) (RunsNative w m.names) c.at.call (plain_call_is c.at.stmt c.at.call c.at.is_call)
      (h.row, (c.class, c.key, names c, h.calls.runs), (h.callee, h.there, h.native))))
  refused_there rule.AmbiguousDefault (c, h) =
      inr (refused rule.AmbiguousDefault c.at.here (and_some (plain_call c.at.stmt) (IsAmbiguousCall w m.names) c.at.call (plain_call_is c.at.stmt c.at.call c.at.is_call) (c.class, c.key, names c, h)))
  refused_there _ h = absurd h

  -- and what refuses the body refuses the method
  pub body_refused : (kind : LinkKind) → RefusesBody w m index kind → RefusesAt w m index kind
  body_refused rule.DuplicateLocal h = h
  body_refused rule.DuplicateLabel h = h
  body_refused rule.UnknownLabel h = inr h
  body_refused rule.FallsOff h = inr h
  body_refused rule.UnknownClass h = inr h
  body_refused _ h = absurd h
