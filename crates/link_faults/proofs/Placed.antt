-- What is known of a statement in its place.
use Rattle.std.proofs.Common.{◌≡◌, ℕ, Bool, ◌<◌, List, Option, Some, None, IsTrue, All, true, inl, inr, length, get_or, slice_get, sym, ap, ◌∙◌, subst, arith}
use Rattle.std.specs.Prelude.{◌↔◌, IsSomeAnd, option_map}
use Rattle.std.proofs.lemmas.Option.{slice_get-get_or}
use Rattle.lists.specs.Lists.{Has}
use Rattle.lists.proofs.Joined.{first_one}
use Rattle.jim_ast.specs.declared.names.NameId.{NameId}
use Rattle.jim_ast.specs.declared.syntax.Body.{Body}
use Rattle.jim_ast.specs.declared.syntax.Mode.TheVariants.{Static}
use Rattle.jim_ast.specs.declared.syntax.Stmt.{Stmt}
use Rattle.jim_ast.specs.declared.syntax.Trap.{Trap}
use Rattle.link_rules.specs.Classes.{methods_of}
use Rattle.link_rules.specs.Conditions.{AreWithin, field_sig_names, method_names, stmt_names}
use Rattle.link_rules.specs.Faults.{FindsNone, FindsSeveral}
use Rattle.link_rules.specs.Keys.{HasMethodKey, called_key}
use Rattle.link_rules.specs.Statements.{HasBody, PlainCall, access_of}
use Rattle.link_rules.specs.Targets.{MayRun}
use Rattle.link_rules.specs.World.{World}
use Rattle.link_classes.specs.declared.seen.MethodIn.{MethodIn}
use Rattle.link_classes.specs.Classes.{IsKnown, texts_at}
use Rattle.link_classes.specs.Seen.{seen_method}
use Rattle.link_faults.specs.declared.callees.Callee.{Callee}
use Rattle.link_faults.specs.declared.parts.Accessed.{Accessed}
use Rattle.link_faults.specs.declared.parts.Called.{Called}
use Rattle.link_faults.specs.declared.site.Site.{Site}
use Rattle.link_faults.specs.AtSite.{IsSite, names_of, world_of}
use Rattle.link_faults.specs.Callees.{IsCallWithin, IsCallee, IsCalleeIf, IsCalleeOf}
use Rattle.link_faults.specs.Progress.{AsksForName}
use Rattle.link_faults.specs.Parts.{AreNamed, plain_call, seen_access, seen_call}
use Rattle.link_faults.specs.Sites.{IsAmbiguousCall, IsNativeRow, IsUndeclaredCall, RunsNative, RunsRow}
use Rattle.link_faults.proofs.StmtParts.{some_and}
use Rattle.link_faults.proofs.Within.{in_access, in_call, in_new, in_stmt, in_trap}

module _ (w : World) (names : List (List ℕ)) (c : PlainCall) (k : Callee) (s : IsCallee w names c k) where
  -- what a call names is what its callee has
  named_class : {class key : ℕ} → AreNamed w names c class key → class ≡ k.class
  named_class {class} n = sym (s.only_class class n.is_class)

  named_key : {class key : ℕ} → AreNamed w names c class key → key ≡ k.key
  named_key {class} {key} n =
      let methods = methods_of w.classes in
      first_one (length methods) (HasMethodKey methods (called_key names c.mode c.sig)) key k.key n.is_key s.named.is_key

  pub undeclared_call_by : (b : Bool) → IsTrue b ↔ FindsNone w c.mode k.class k.key → IsTrue b ↔ IsUndeclaredCall w names c
  undeclared_call_by b is = (
    λ e. (k.class, k.key, s.named, is.0 e),
    λ (h : IsUndeclaredCall w names c). is.1 (subst (λ a. FindsNone w c.mode a k.key) (named_class h.2) (subst (λ q. FindsNone w c.mode h.0 q) (named_key h.2) h.3)),
  )

  -- the rows are what the call may run
  pub runs_row : (row : ℕ) → Has k.rows.items row ↔ RunsRow w names c row
  runs_row row = (
    λ h. (k.class, k.key, s.named, (s.rows row).0 h),
    λ (h : RunsRow w names c row). (s.rows row).1 (subst (λ a. MayRun w c.mode a k.key row) (named_class h.2) (subst (λ q. MayRun w c.mode h.0 q row) (named_key h.2) h.3)),
  )

  pub native_by : (b : Bool) → IsTrue b ↔ ((row : ℕ) × Has k.rows.items row × IsNativeRow w row) → IsTrue b ↔ RunsNative w names c
  native_by b is = (
    λ e. let h = is.0 e in (h.0, (runs_row h.0).0 h.1, h.2),
    λ (h : RunsNative w names c). is.1 (h.0, (runs_row h.0).1 h.1, h.2),
  )

  pub ambiguous_by : IsTrue k.several ↔ IsAmbiguousCall w names c
  ambiguous_by = (
    λ e. (k.class, k.key, s.named, s.is_several.0 e),
    λ (h : IsAmbiguousCall w names c). s.is_several.1 (subst (λ a. FindsSeveral w c.mode a k.key) (named_class h.2) (subst (λ q. FindsSeveral w c.mode h.0 q) (named_key h.2) h.3)),
  )

module _ (x : Site) (s : IsSite x) where
  -- the site's call is the statement's
  pub site_call : (c : Called) → x.call ≡ Some c → plain_call x.stmt.now ≡ Some (seen_call c)
  site_call c is = sym s.call ∙ ap (option_map seen_call) is

  -- what is said of the site's call is said of the statement's
  pub of_call : (c : Called) (P : PlainCall → Type 0) (b : Bool) → x.call ≡ Some c → IsTrue b ↔ P (seen_call c) → IsTrue b ↔ IsSomeAnd (plain_call x.stmt.now) P
  of_call c P b is h = subst (λ (o : Option PlainCall). IsTrue b ↔ IsSomeAnd o P) (sym (site_call c is)) h

  pub call_class : (c : Called) → x.call ≡ Some c → c.sig.now.class.0 < length (names_of x)
  call_class c is =
      let within = in_call (λ (id : NameId). id.0 < length (names_of x)) x.stmt.now (seen_call c) s.within (site_call c is) in
      within 0 c.sig.now.class (omega arith)

  pub access_within : (a : Accessed) (o : Option Accessed) → option_map seen_access o ≡ access_of x.stmt.now → o ≡ Some a → AreWithin (names_of x) (field_sig_names a.sig)
  access_within a o ensures is =
      in_access (λ (id : NameId). id.0 < length (names_of x)) x.stmt.now (seen_access a) s.within (sym ensures ∙ ap (option_map seen_access) is)

  pub access_class : (a : Accessed) (o : Option Accessed) → option_map seen_access o ≡ access_of x.stmt.now → o ≡ Some a → a.sig.class.0 < length (names_of x)
  access_class a o ensures is = access_within a o ensures is 0 a.sig.class (omega arith)

  -- the site's callee is the call's
  pub site_callee : (c : Called) (k : Callee) → x.call ≡ Some c → x.callee ≡ Some k → IsCallee (world_of x) (names_of x) (seen_call c) k
  site_callee c k is is_callee =
      let of_call = subst (λ (o : Option Called). IsCalleeIf (world_of x) (names_of x) o x.callee) is s.callee in
      subst (λ (o : Option Callee). IsCalleeOf (world_of x) (names_of x) (seen_call c) o) is_callee of_call

-- the names of a statement's call are among those of the statement
pub call_within : (names : List (List ℕ)) (s : Stmt) (o : Option Called) → option_map seen_call o ≡ plain_call s → AreWithin names (stmt_names s) → IsCallWithin names o
call_within names s (Some c) is within = in_call (λ (id : NameId). id.0 < length names) s (seen_call c) within (sym is)
call_within names s None is within = tt

-- the names of a known method are among those of its program
pub method_within : (texts : List (List ℕ)) (m : MethodIn) → IsKnown texts m → AreWithin (seen_method m).names (method_names m.decl.now)
method_within texts m known = subst (λ (ts : List (List ℕ)). AreWithin (texts_at ts m.ids.now) (method_names m.decl.now)) (sym known.all) known.within

-- the classes of its traps are
pub traps_within : (texts : List (List ℕ)) (m : MethodIn) (body : Body) → IsKnown texts m → HasBody (seen_method m) body
    → All (λ (trap : Trap). trap.class.0 < length (seen_method m).names) body.traps
traps_within texts m body known in_body k d below =
    let trap = get_or body.traps k d in
    in_trap (λ (id : NameId). id.0 < length (seen_method m).names) m.decl.now body k trap (method_within texts m known) in_body (slice_get-get_or body.traps k d below) 0 trap.class (omega arith)

-- the names of its statements are
pub stmt_within : (texts : List (List ℕ)) (m : MethodIn) (body : Body) (i : ℕ) (s : Stmt) → IsKnown texts m → HasBody (seen_method m) body → slice_get body.stmts i ≡ Some s
    → AreWithin (seen_method m).names (stmt_names s)
stmt_within texts m body i s known in_body there = in_stmt (λ (id : NameId). id.0 < length (seen_method m).names) m.decl.now body i s (method_within texts m known) in_body there

-- the class that a statement asks for is
pub asked_within : (names : List (List ℕ)) (s : Stmt) (class : NameId) → AreWithin names (stmt_names s) → AsksForName s class → class.0 < length names
asked_within names s class within (inl made) = in_new (λ (id : NameId). id.0 < length names) s class within made
asked_within names s class within (inr (inl h)) =
    let a = some_and (access_of s) (λ a. (a.is_static ≡ true) × (a.sig.class ≡ class)) h in
    subst (λ (c : NameId). c.0 < length names) a.2.1 (in_access (λ (id : NameId). id.0 < length names) s a.0 within a.1 0 a.0.sig.class (omega arith))
asked_within names s class within (inr (inr h)) =
    let c = some_and (plain_call s) (λ c. (c.mode ≡ Static) × (c.sig.class ≡ class)) h in
    subst (λ (k : NameId). k.0 < length names) c.2.1 (in_call (λ (id : NameId). id.0 < length names) s c.0 within c.1 0 c.0.sig.class (omega arith))
