-- What is known of the statements before an index, and of all of them.
use Rattle.std.proofs.Common.{◌≡◌, ℕ, ◌+◌, ◌<◌, ◌⊎◌, Option, None, Some, List, [], length, true, slice_get, refl, sym, ap, subst, inl, inr, arith}
use Rattle.std.specs.Prelude.{◌↔◌, MatchOption}
use Rattle.std.proofs.lemmas.Bool.{cases_order}
use Rattle.lists.specs.Lists.{Has}
use Rattle.jim_ast.specs.declared.syntax.Body.{Body}
use Rattle.jim_ast.specs.declared.syntax.Mode.TheVariants.{Static}
use Rattle.jim_ast.specs.declared.syntax.Stmt.{Stmt}
use Rattle.link_rules.specs.declared.refusal.LinkKind.{LinkKind}
use Rattle.link_rules.specs.declared.refusal.LinkKind.TheVariants as rule
use Rattle.link_rules.specs.Classes.{DeclaredMethod, IsNamed}
use Rattle.link_rules.specs.Names.{text_of}
use Rattle.link_rules.specs.Reach.{IsTarget, RefusesAt, TakesTargets, Touches}
use Rattle.link_rules.specs.Statements.{HasBody, access_of}
use Rattle.link_rules.specs.World.{World}
use Rattle.link_classes.specs.declared.seen.MethodIn.{MethodIn}
use Rattle.link_classes.specs.Classes.{ClassTable}
use Rattle.link_classes.specs.Seen.{seen_method}
use Rattle.link_faults.specs.declared.site.Site.{Site}
use Rattle.link_faults.specs.AtSite.{AsksFor, HasTargetHere, IsFaultHere, IsSiteOf, method_of, world_of}
use Rattle.link_faults.specs.declared.examined.Examined.{Examined}
use Rattle.link_faults.specs.declared.examined.Fault.{Fault}
use Rattle.link_faults.specs.Examined.{HasNoFault, IsExamined, IsFirstFault}
use Rattle.link_faults.specs.Progress.{AsksForClass, HasTarget, IsExaminedTo, IsNothing, RefusesBody}
use Rattle.link_faults.specs.Order.{IsEarlier, IsFirstIn}
use Rattle.link_faults.specs.Parts.{plain_call}
use Rattle.link_faults.specs.Sites.{RefusesStmt, RunsRow}
use Rattle.link_faults.proofs.BodyFaults.{one_body}
use Rattle.link_faults.proofs.FirstFaults.{Either, earlier_first, same_first}
use Rattle.link_faults.proofs.Lifting.{access_at, body_refused, call_at, makes, named_call, placed, refused_there, refuses_at}
use Rattle.link_faults.proofs.StmtParts.{and_some, plain_call_is, some_and}

-- the first refusal of a method
as_fault : (w : World) (m : DeclaredMethod) (o : Option Fault) → IsFirstIn (RefusesAt w m) o → MatchOption o (HasNoFault w m) (IsFirstFault w m)
as_fault w m (Some fault) h = record { refuses = h.refuses; first = h.first }
as_fault w m None h = h

-- a statement before the end with this fact
abbrev pub Before : Body → ℕ → (ℕ → Stmt → Type 0) → Type 0
Before body end P = (index : ℕ) × (s : Stmt) × (index < end) × (slice_get body.stmts index ≡ Some s) × P index s

-- nothing is in an empty list
none_in : (xs : List ℕ) → xs ≡ [] → (x : ℕ) → Has xs x → ⊥
none_in xs is x h = let e = subst (λ (ys : List ℕ). slice_get ys h.0 ≡ Some x) is h.1 in cc (e)

-- no statement stands before the first one
none_before : (body : Body) (P : ℕ → Stmt → Type 0) → Before body 0 P → ⊥
none_before body P h = omega (arith, h.2)

-- one more
one_more : (body : Body) (n : ℕ) (s : Stmt) (P : ℕ → Stmt → Type 0) → slice_get body.stmts n ≡ Some s → Before body (n + 1) P ↔ (Before body n P ⊎ P n s)
one_more body n s P there = (to, from)
  where
    to : Before body (n + 1) P → Before body n P ⊎ P n s
    to (index, k, below, at, p) = elim (cases_order index n) [
      | inl same ↦ let here = subst (λ i. slice_get body.stmts i ≡ Some k) same at in let one : k ≡ s = cc (here, there) in inr (subst (P n) one (subst (λ i. P i k) same p))
      | inr apart ↦ inl (index, k, omega arith, at, p)
    ]

    from : Before body n P ⊎ P n s → Before body (n + 1) P
    from (inl (index, k, below, at, p)) = (index, k, omega arith, at, p)
    from (inr p) = (n, s, omega arith, there, p)

-- sets that grow side by side
more : {X : Type 0} (old new : List X) (A B C : X → Type 0) → ((x : X) → Has old x ↔ A x) → ((x : X) → Has new x ↔ (Has old x ⊎ B x)) → ((x : X) → C x ↔ (A x ⊎ B x)) → (x : X) → Has new x ↔ C x
more {X} old new A B C is grows all x = (
  λ (h : Has new x). (all x).1 (elim ((grows x).0 h) [ inl a ↦ inl ((is x).0 a) | inr b ↦ inr b ]),
  λ h. (grows x).1 (elim ((all x).0 h) [ inl a ↦ inl ((is x).1 a) | inr b ↦ inr b ]),
)

module _ (w : World) (m : DeclaredMethod) (body : Body) where
  -- what refuses a statement before the end, and what refuses the one there
  abbrev Refused : ℕ → ℕ → LinkKind → Type 0
  Refused end i k = (s : Stmt) × (i < end) × (slice_get body.stmts i ≡ Some s) × RefusesStmt w m body i s k

  abbrev Here : ℕ → Stmt → ℕ → LinkKind → Type 0
  Here n s i k = (i ≡ n) × RefusesStmt w m body n s k

  -- nothing is known before the first statement
  pub nothing_to : (e : Examined) → IsNothing e → IsExaminedTo w m body 0 e
  nothing_to e is = record {
    targets = λ row. (λ h. absurd (none_in e.rows.items is.rows row h), λ h. absurd (none_before body (λ i s. HasTarget w m body i s row) h));
    touched = λ class. (λ h. absurd (none_in e.touched.items is.touched class h), λ h. absurd (none_before body (λ i s. AsksForClass w m.names s class) h));
    fault = subst (IsFirstIn (λ i k. (s : Stmt) × (i < 0) × (slice_get body.stmts i ≡ Some s) × RefusesStmt w m body i s k)) (sym is.fault) (λ i k h. omega (arith, h.1));
  }

  -- one more statement is looked at
  pub one_further : (n : ℕ) (s : Stmt) (old new : Examined) (fault : Option Fault) → slice_get body.stmts n ≡ Some s → IsExaminedTo w m body n old
      → ((row : ℕ) → Has new.rows.items row ↔ (Has old.rows.items row ⊎ HasTarget w m body n s row))
      → ((class : ℕ) → Has new.touched.items class ↔ (Has old.touched.items class ⊎ AsksForClass w m.names s class))
      → IsFirstIn (λ i k. (i ≡ n) × RefusesStmt w m body n s k) fault → IsEarlier old.fault fault new.fault → IsExaminedTo w m body (n + 1) new
  one_further n s old new fault there so_far rows touched first earlier = record {
    targets = more old.rows.items new.rows.items (λ row. Before body n (λ i s. HasTarget w m body i s row)) (λ row. HasTarget w m body n s row) (λ row. Before body (n + 1) (λ i s. HasTarget w m body i s row)) so_far.targets rows
        (λ row. one_more body n s (λ i s. HasTarget w m body i s row) there);
    touched = more old.touched.items new.touched.items (λ class. Before body n (λ i s. AsksForClass w m.names s class)) (λ class. AsksForClass w m.names s class) (λ class. Before body (n + 1) (λ i s. AsksForClass w m.names s class))
        so_far.touched touched (λ class. one_more body n s (λ i s. AsksForClass w m.names s class) there);
    fault = same_first (Either (Refused n) (Here n s)) (Refused (n + 1)) new.fault to from (earlier_first (Refused n) (Here n s) old.fault fault new.fault so_far.fault first earlier);
  }
    where
      to : (i : ℕ) (k : LinkKind) → Either (Refused n) (Here n s) i k → Refused (n + 1) i k
      to i k (inl (t, below, at, h)) = (t, omega arith, at, h)
      to i k (inr (same, h)) = (s, omega arith, subst (λ j. slice_get body.stmts j ≡ Some s) (sym same) there, subst (λ j. RefusesStmt w m body j s k) (sym same) h)

      from : (i : ℕ) (k : LinkKind) → Refused (n + 1) i k → Either (Refused n) (Here n s) i k
      from i k (t, below, at, h) = elim (cases_order i n) [
        | inl same ↦
            let here = subst (λ j. slice_get body.stmts j ≡ Some t) same at in
            let one : t ≡ s = cc (here, there) in
            inr (same, subst (λ t. RefusesStmt w m body n t k) one (subst (λ j. RefusesStmt w m body j t k) same h))
        | inr apart ↦ inl (t, omega arith, at, h)
      ]

module _ (w : World) (m : DeclaredMethod) (body : Body) (in_body : HasBody m body) where
  abbrev pub AllRefused : ℕ → LinkKind → Type 0
  AllRefused i k = (s : Stmt) × (i < length body.stmts) × (slice_get body.stmts i ≡ Some s) × RefusesStmt w m body i s k

  -- the first refusal of the method is that of the body or of its statements
  first_of_all : (e : Examined) (beside stmts : Option Fault) → IsFirstIn (RefusesBody w m) beside → IsFirstIn AllRefused stmts → IsEarlier beside stmts e.fault → IsFirstIn (RefusesAt w m) e.fault
  first_of_all e beside stmts p q earlier =
      same_first (Either (RefusesBody w m) AllRefused) (RefusesAt w m) e.fault to (λ i k h. refused_there w m body in_body i k h) (earlier_first (RefusesBody w m) AllRefused beside stmts e.fault p q earlier)
    where
      to : (i : ℕ) (k : LinkKind) → Either (RefusesBody w m) AllRefused i k → RefusesAt w m i k
      to i k (inl h) = body_refused w m body in_body i k h
      to i k (inr (s, below, at, h)) = refuses_at w m body in_body i s at k h

  -- what takes a call its targets isn't said of the body beside its statements
  not_beside : (i : ℕ) (kind : LinkKind) → TakesTargets kind → i < length body.stmts → RefusesBody w m i kind → ⊥
  not_beside i rule.UnknownClass takes below h =
      let e = one_body w m body in_body h.body h.in_body in
      let at = subst (λ (b : Body). i ≡ length b.stmts) e h.at_end in
      omega (arith, below, at)
  not_beside i rule.UnknownLocal takes below h = h
  not_beside i rule.DynamicInvoke takes below h = h
  not_beside i rule.Reflection takes below h = h
  not_beside i rule.Threads takes below h = h
  not_beside i rule.UndeclaredCallee takes below h = h
  not_beside i rule.BadArguments takes below h = h
  not_beside i rule.NativeCallee takes below h = h
  not_beside i rule.AmbiguousDefault takes below h = h
  not_beside i _ takes below h = absurd takes

  -- the targets of the statement's call are those of the method there
  to_target : (i : ℕ) (s : Stmt) (row : ℕ) → i < length body.stmts → slice_get body.stmts i ≡ Some s → HasTarget w m body i s row → IsTarget w m i row
  to_target i s row below there h =
      let c = some_and (plain_call s) (λ c. RunsRow w m.names c row) h.0 in
      record {
        calls = record { names = named_call w m body in_body i s there c.0 c.1 c.2.0 c.2.1 c.2.2; runs = c.2.3 };
        allowed = λ kind takes r. elim (refused_there w m body in_body i kind r) [
          | inl beside ↦ not_beside i kind takes below beside
          | inr at ↦ let one : at.0 ≡ s = cc (at.2, there) in h.1 kind takes (subst (λ t. RefusesStmt w m body i t kind) one at.3)
        ];
      }

  from_target : (i row : ℕ) → IsTarget w m i row → (s : Stmt) × (i < length body.stmts) × (slice_get body.stmts i ≡ Some s) × HasTarget w m body i s row
  from_target i row t =
      let c = t.calls.names in
      let at = placed w m body in_body i c.at.here in
      let call = plain_call_is c.at.stmt c.at.call c.at.is_call in (
        c.at.stmt,
        at.0,
        at.1,
        (
          and_some (plain_call c.at.stmt) (λ k. RunsRow w m.names k row) c.at.call call (c.class, c.key, record { is_class = c.is_class; is_key = c.is_key }, t.calls.runs),
          λ kind takes r. t.allowed kind takes (refuses_at w m body in_body i c.at.stmt at.1 kind r),
        ),
      )

  -- the classes that the statement asks for are those of the method there
  to_touches : (i : ℕ) (s : Stmt) (class : ℕ) → slice_get body.stmts i ≡ Some s → AsksForClass w m.names s class → (name : List ℕ) × Touches m i name × IsNamed w.classes name class
  to_touches i s class there (id, inl made, named) = (text_of m.names id, inl (makes w m body in_body i s there id made), named)
  to_touches i s class there (id, inr (inl h), named) =
      let a = some_and (access_of s) (λ a. (a.is_static ≡ true) × (a.sig.class ≡ id)) h in
      (text_of m.names id, inr (inl (access_at w m body in_body i s there a.0 a.1, a.2.0, ap (text_of m.names) a.2.1)), named)
  to_touches i s class there (id, inr (inr h), named) =
      let c = some_and (plain_call s) (λ c. (c.mode ≡ Static) × (c.sig.class ≡ id)) h in
      (text_of m.names id, inr (inr (record { at = call_at w m body in_body i s there c.0 c.1; named = ap (text_of m.names) c.2.1 }, c.2.0)), named)

  from_touches : (i : ℕ) (name : List ℕ) (class : ℕ) → Touches m i name → IsNamed w.classes name class
      → (s : Stmt) × (i < length body.stmts) × (slice_get body.stmts i ≡ Some s) × AsksForClass w m.names s class
  from_touches i name class (inl o) named =
      let at = placed w m body in_body i o.here in
      (o.stmt, at.0, at.1, (o.class, inl o.makes, subst (λ text. IsNamed w.classes text class) (sym o.named) named))
  from_touches i name class (inr (inl (a, is_static, same))) named =
      let at = placed w m body in_body i a.here in (
        a.stmt,
        at.0,
        at.1,
        (
          a.access.sig.class,
          inr (inl (and_some (access_of a.stmt) (λ b. (b.is_static ≡ true) × (b.sig.class ≡ a.access.sig.class)) a.access a.accesses (is_static, refl))),
          subst (λ text. IsNamed w.classes text class) (sym same) named,
        ),
      )
  from_touches i name class (inr (inr (c, is_static))) named =
      let at = placed w m body in_body i c.at.here in
      let call = plain_call_is c.at.stmt c.at.call c.at.is_call in (
        c.at.stmt,
        at.0,
        at.1,
        (
          c.at.call.sig.class,
          inr (inr (and_some (plain_call c.at.stmt) (λ b. (b.mode ≡ Static) × (b.sig.class ≡ c.at.call.sig.class)) c.at.call call (is_static, refl))),
          subst (λ text. IsNamed w.classes text class) (sym c.named) named,
        ),
      )

  -- all statements and the body
  pub examined_all : (old new : Examined) (beside : Option Fault) → IsExaminedTo w m body (length body.stmts) old → IsFirstIn (RefusesBody w m) beside → IsEarlier beside old.fault new.fault
      → new.rows.items ≡ old.rows.items → new.touched.items ≡ old.touched.items → IsExamined w m new
  examined_all old new beside all first earlier rows touched = record {
    targets = λ row. subst (λ (xs : List ℕ). Has xs row ↔ ((i : ℕ) × IsTarget w m i row)) (sym rows) (
      λ h. let t = (all.targets row).0 h in (t.0, to_target t.0 t.1 row t.2 t.3 t.4),
      λ (h : (i : ℕ) × IsTarget w m i row). let t = from_target h.0 row h.1 in (all.targets row).1 (h.0, t.0, t.1, t.2, t.3),
    );
    touched = λ class. subst (λ (xs : List ℕ). Has xs class ↔ ((i : ℕ) × (name : List ℕ) × Touches m i name × IsNamed w.classes name class)) (sym touched) (
      λ h. let t = (all.touched class).0 h in let k = to_touches t.0 t.1 class t.3 t.4 in (t.0, k.0, k.1, k.2),
      λ (h : (i : ℕ) × (name : List ℕ) × Touches m i name × IsNamed w.classes name class). let t = from_touches h.0 h.1 class h.2 h.3 in (all.touched class).1 (h.0, t.0, t.1, t.2, t.3),
    );
    fault = as_fault w m new.fault (first_of_all new beside old.fault first all.fault earlier);
  }

-- a statement looked at in its place
module _ (t : ClassTable) (mi : MethodIn) (body : Body) (n : ℕ) (x : Site) (p : IsSiteOf t mi body n x) where
  site_same : (k : ℕ) (e : Examined) → IsExaminedTo t.world (seen_method mi) body k e ↔ IsExaminedTo (world_of x) (method_of x) x.body.now k e
  site_same k e = (
    λ h. subst (λ (b : Body). IsExaminedTo (world_of x) (method_of x) b k e) (sym p.in_body)
        (subst (λ (m : MethodIn). IsExaminedTo (world_of x) (seen_method m) body k e) (sym p.method) (subst (λ (t : ClassTable). IsExaminedTo t.world (seen_method mi) body k e) (sym p.classes) h)),
    λ h. subst (λ (t : ClassTable). IsExaminedTo t.world (seen_method mi) body k e) p.classes
        (subst (λ (m : MethodIn). IsExaminedTo (world_of x) (seen_method m) body k e) p.method (subst (λ (b : Body). IsExaminedTo (world_of x) (method_of x) b k e) p.in_body h)),
  )

  pub site_further : (old new : Examined) (fault : Option Fault) → IsExaminedTo t.world (seen_method mi) body n old
      → ((row : ℕ) → Has new.rows.items row ↔ (Has old.rows.items row ⊎ HasTargetHere x row))
      → ((class : ℕ) → Has new.touched.items class ↔ (Has old.touched.items class ⊎ AsksFor x class))
      → IsFaultHere x fault → IsEarlier old.fault fault new.fault → IsExaminedTo t.world (seen_method mi) body (n + 1) new
  site_further old new fault so_far rows touched first earlier =
      let here = subst (λ (b : Body). slice_get b.stmts n ≡ Some x.stmt.now) (sym p.in_body) p.there in
      let there = subst (λ i. slice_get x.body.now.stmts i ≡ Some x.stmt.now) (sym p.at) here in
      let before = subst (λ i. IsExaminedTo (world_of x) (method_of x) x.body.now i old) (sym p.at) ((site_same n old).0 so_far) in
      let after = one_further (world_of x) (method_of x) x.body.now x.index x.stmt.now old new fault there before rows touched first earlier in
      (site_same (n + 1) new).1 (subst (λ i. IsExaminedTo (world_of x) (method_of x) x.body.now (i + 1) new) p.at after)

-- what is refused, has a target or asks for a class stands in a body
module _ (w : World) (m : DeclaredMethod) where
  refused_in : (i : ℕ) (kind : LinkKind) → RefusesAt w m i kind → (body : Body) × HasBody m body
  refused_in i rule.DuplicateLocal h = (h.body, h.in_body)
  refused_in i rule.DuplicateLabel h = (h.body, h.in_body)
  refused_in i rule.UnknownLabel (inl h) = (h.here.body, h.here.in_body)
  refused_in i rule.UnknownLabel (inr h) = (h.body, h.in_body)
  refused_in i rule.FallsOff (inl h) = (h.here.body, h.here.in_body)
  refused_in i rule.FallsOff (inr (inl h)) = (h.body, h.in_body)
  refused_in i rule.FallsOff (inr (inr h)) = (h.body, h.in_body)
  refused_in i rule.UnknownLocal h = (h.here.body, h.here.in_body)
  refused_in i rule.BadIdentity (inl h) = (h.1.body, h.1.in_body)
  refused_in i rule.BadIdentity (inr h) = (h.2.body, h.2.in_body)
  refused_in i rule.DynamicInvoke h = (h.1.body, h.1.in_body)
  refused_in i rule.Reflection h = (h.1.at.here.body, h.1.at.here.in_body)
  refused_in i rule.Threads (name, inl o, h) = (o.here.body, o.here.in_body)
  refused_in i rule.Threads (name, inr c, h) = (c.at.here.body, c.at.here.in_body)
  refused_in i rule.RetStatement h = (h.body, h.in_body)
  refused_in i rule.NestedArray h = (h.2.body, h.2.in_body)
  refused_in i rule.UnknownClass (inl (name, inl o, h)) = (o.here.body, o.here.in_body)
  refused_in i rule.UnknownClass (inl (name, inr (inl c), h)) = (c.at.here.body, c.at.here.in_body)
  refused_in i rule.UnknownClass (inl (name, inr (inr a), h)) = (a.0.here.body, a.0.here.in_body)
  refused_in i rule.UnknownClass (inr h) = (h.body, h.in_body)
  refused_in i rule.UnknownField h = (h.at.here.body, h.at.here.in_body)
  refused_in i rule.AbstractNew h = (h.makes.here.body, h.makes.here.in_body)
  refused_in i rule.UndeclaredCallee h = (h.0.at.here.body, h.0.at.here.in_body)
  refused_in i rule.BadArguments (inl h) = (h.0.here.body, h.0.here.in_body)
  refused_in i rule.BadArguments (inr h) = (h.here.body, h.here.in_body)
  refused_in i rule.NativeCallee h = let c = h.calls.names.at in (c.here.body, c.here.in_body)
  refused_in i rule.AmbiguousDefault h = (h.0.at.here.body, h.0.at.here.in_body)
  refused_in i _ h = absurd h

  asked_in : (i : ℕ) (name : List ℕ) → Touches m i name → (body : Body) × HasBody m body
  asked_in i name (inl o) = (o.here.body, o.here.in_body)
  asked_in i name (inr (inl a)) = (a.0.here.body, a.0.here.in_body)
  asked_in i name (inr (inr c)) = (c.0.at.here.body, c.0.at.here.in_body)

  -- so a method without one has nothing
  pub without_body : (e : Examined) → m.decl.body ≡ None → IsNothing e → IsExamined w m e
  without_body e none is = record {
    targets = λ row. (λ h. absurd (none_in e.rows.items is.rows row h), λ (h : (i : ℕ) × IsTarget w m i row). let c = h.1.calls.names.at.here in no_body c.body c.in_body);
    touched = λ class. (
      λ h. absurd (none_in e.touched.items is.touched class h),
      λ (h : (i : ℕ) × (name : List ℕ) × Touches m i name × IsNamed w.classes name class). let b = asked_in h.0 h.1 h.2 in no_body b.0 b.1,
    );
    fault = as_fault w m e.fault (subst (IsFirstIn (RefusesAt w m)) (sym is.fault) (λ i k h. let b = refused_in i k h in no_body b.0 b.1));
  }
    where
      no_body : {P : Type 0} (b : Body) → HasBody m b → P
      no_body b h = cc (none, h)
