-- What a call that no rule refuses finds, and what its targets are.
use Rattle.std.proofs.Common.{◌≡◌, ◌≢◌, ℕ, ◌<◌, Bool, true, false, not, is_some, Option, Some, None, List, [], ◌∷◌, length, slice_get, refl, sym, ap, ◌∙◌, subst, inl, inr, arith}
use Rattle.std.proofs.lemmas.Bool.{cases_eq}
use Rattle.std.proofs.lemmas.List.{length-map}
use Rattle.class_rules.specs.Lookups.{OnPath, Resolve, on_path}
use Rattle.class_rules.specs.Rows.{IsOwnAncestor, NamesUnknown}
use Rattle.lists.proofs.Places.{slice_get-below}
use Rattle.jim_ast.specs.declared.names.NameId.{NameId}
use Rattle.jim_ast.specs.declared.syntax.Imm.{Imm}
use Rattle.jim_ast.specs.declared.syntax.Invoke.TheVariants.{Plain}
use Rattle.jim_ast.specs.declared.syntax.MethodSig.{MethodSig}
use Rattle.jim_ast.specs.declared.syntax.Mode.{Mode}
use Rattle.jim_ast.specs.declared.syntax.Mode.TheVariants.{Special, Virtual, Interface, Static}
use Rattle.jim_ast.specs.declared.syntax.Stmt.{Stmt}
use Rattle.link_rules.specs.declared.code.Arg.{Arg}
use Rattle.link_rules.specs.declared.refusal.LinkKind.TheVariants as rule
use Rattle.link_rules.specs.Classes.{DeclaredMethod, IsNamed, methods_of}
use Rattle.link_rules.specs.Codes.{IsCall, IsMethodNumber}
use Rattle.link_rules.specs.Faults.{FindsNone, FindsSeveral}
use Rattle.link_rules.specs.Keys.{HasMethodKey, HasReceiverByMode, IsMethodKeyNumber, MethodKey, called_key, is_static_mode, method_key}
use Rattle.link_rules.specs.Linked.{IsLinkedRow, LinkedMethod, LinkedProgram, key_of, scope_of}
use Rattle.lists.specs.Lists.{BothOrNone}
use Rattle.link_rules.specs.Refusals.{whole}
use Rattle.link_rules.specs.Statements.{PlainCallAt, StmtAt, call_of}
use Rattle.link_rules.specs.Targets.{CallAt, MayRun}
use Rattle.link_rules.specs.WellLinked.{FitsMode, SuitsCall}
use Rattle.link_rules.specs.World.{World}
use Rattle.link_laws.proofs.Lists.{each_left, each_right, map_at}
use Rattle.link_laws.proofs.Members.{method_declared, method_found, method_key_has, method_key_unless}
use Rattle.link_laws.proofs.Resolves.{looks_up, resolves}
use Rattle.link_laws.proofs.Stands.{IsMade, Stands, methods_many, row_at, stands_row}

module _ (w : World) (p : LinkedProgram) (made : IsMade w p) where
  -- each parent and each interface is a class
  pub known : (a : ℕ) → NamesUnknown w.rows.classes w.rows.implements a → ⊥
  known a r = made.link.accepted (whole rule.UnknownParent a) r

  -- no class is its own ancestor
  pub acyclic : (a : ℕ) → IsOwnAncestor w.rows.classes w.rows.implements a → ⊥
  acyclic a r = made.link.accepted (whole rule.CyclicClass a) r

  -- a class that is named has a row
  class_below : (name : List ℕ) (n : ℕ) → IsNamed w.classes name n → n < length w.rows.classes
  class_below name n named = let below = slice_get-below w.classes n named.class named.there in let same = made.rows.class_rows.as_many in omega (arith, below, same)

  -- a look-up along the parents that doesn't find nothing finds something
  pub finds : (name : List ℕ) (class key : ℕ) → IsNamed w.classes name class → (OnPath w.rows class key None → ⊥)
      → (row : ℕ) × OnPath w.rows class key (Some row)
  finds name class key named refused = let r = looks_up w.rows known acyclic key class (class_below name class named) in by r.0 r.1
    where
      by : (o : Option ℕ) → OnPath w.rows class key o → (row : ℕ) × OnPath w.rows class key (Some row)
      by None r = absurd (refused r)
      by (Some row) r = (row, r)

  -- so does a selection that doesn't find nothing, nor several
  pub selects : (name : List ℕ) (class key : ℕ) → IsNamed w.classes name class → (FindsNone w Special class key → ⊥) → (FindsSeveral w Special class key → ⊥)
      → (row : ℕ) × Resolve w.rows class key (Some row)
  selects name class key named refused settled = let r = resolves w.rows known acyclic key class (class_below name class named) in by r.0 r.1
    where
      by : (o : Option ℕ) → Resolve w.rows class key o → (row : ℕ) × Resolve w.rows class key (Some row)
      by None r = absurd (refused (r, settled))
      by (Some row) r = (row, r)

  -- the key of such a call is that of a method
  key_by_mode : (mode : Mode) (k : MethodKey) (name : List ℕ) (class key : ℕ) → IsNamed w.classes name class → (FindsNone w mode class key → ⊥)
      → (FindsSeveral w mode class key → ⊥) → IsMethodKeyNumber (methods_of w.classes) k key → HasMethodKey (methods_of w.classes) k key
  key_by_mode Static k name class key named refused settled given =
      let r = finds name class key named refused in
      method_key_has (methods_of w.classes) k key r.0 (method_found w made.rows k class key r.0 (on_path r.1) given) given
  key_by_mode Special k name class key named refused settled given =
      let r = selects name class key named refused settled in
      method_key_has (methods_of w.classes) k key r.0 (method_found w made.rows k class key r.0 r.1 given) given
  key_by_mode Virtual k name class key named refused settled given =
      method_key_unless (methods_of w.classes) k key (λ none. refused (λ d. none key (method_declared w made.rows k class key d given))) given
  key_by_mode Interface k name class key named refused settled given =
      method_key_unless (methods_of w.classes) k key (λ none. refused (λ d. none key (method_declared w made.rows k class key d given))) given

  -- what a call may run has its key
  run_has_key : (mode : Mode) (k : MethodKey) (class key row : ℕ) → MayRun w mode class key row → IsMethodKeyNumber (methods_of w.classes) k key
      → HasMethodKey (methods_of w.classes) k row
  run_has_key Static k class key row runs given = method_found w made.rows k class key row (on_path runs) given
  run_has_key Special k class key row runs given = method_found w made.rows k class key row runs given
  run_has_key Virtual k class key row runs given = method_found w made.rows k runs.0 key row runs.1.finds given
  run_has_key Interface k class key row runs given = method_found w made.rows k runs.0 key row runs.1.finds given

  -- a method that no rule refuses has statements
  pub has_code : (m : DeclaredMethod) (l : LinkedMethod) → Stands w p m l → 0 < length l.code
  has_code m l st = by st.linked.body.stmts refl
    where
      by : (stmts : List Stmt) → st.linked.body.stmts ≡ stmts → 0 < length l.code
      by [] e = absurd (st.allowed 0 rule.FallsOff (inr (inr (record { body = st.linked.body; in_body = st.linked.in_body; empty = e; at_zero = refl }))))
      by (s ∷ stmts) e = let same = st.linked.code.as_many in let long = ap (length {A = Stmt}) e in omega (arith, same, long)

-- an option beside another has a value where that has
pub both_some : {X Y : Type 0} (R : X → Y → Type 0) (x : Option X) (y : Option Y) → BothOrNone R x y → is_some x ≡ is_some y
both_some R (Some x) (Some y) h = refl
both_some R None None h = refl
both_some R (Some x) None h = elim h [ ]
both_some R None (Some y) h = elim h [ ]

-- a flag that differs from another is its opposite
other_flag : (a b : Bool) → a ≢ b → a ≡ not b
other_flag true true h = absurd (h refl)
other_flag true false h = refl
other_flag false true h = refl
other_flag false false h = absurd (h refl)

module _ (w : World) (p : LinkedProgram) (made : IsMade w p) (m : DeclaredMethod) (l : LinkedMethod) (st : Stands w p m l) (index : ℕ) (s : Stmt) (here : StmtAt m index s)
    (mode : Mode) (y : Option NameId) (sig : MethodSig) (args : List Imm) (is_call : call_of s ≡ Some (Plain mode y sig args))
    (class key : ℕ) (codes : List Arg) (targets : List ℕ) (call : IsCall (scope_of w p m st.linked.body) mode sig args class key codes targets) where
  -- the call in its parts
  plain : PlainCallAt m index
  plain = record { stmt = s; here = here; call = record { mode = mode; receiver = y; sig = sig; args = args }; is_call = is_call }

  -- the call with the numbers of its class and key
  at : CallAt w m index
  unfolding plain
  at = record { at = plain; class = class; is_class = call.is_class; key = key; is_key = call.is_key }

  -- the rule of undeclared methods doesn't refuse it
  pub declared : FindsNone w mode class key → ⊥
  unfolding at plain
  declared none = st.allowed index rule.UndeclaredCallee (at, none)

  -- nor does the rule of several default methods
  pub settled : FindsSeveral w mode class key → ⊥
  unfolding at plain
  settled several = st.allowed index rule.AmbiguousDefault (at, several)

  -- some method has its key
  key_has : HasMethodKey (methods_of w.classes) (called_key m.names mode sig) key
  key_has = key_by_mode w p made mode (called_key m.names mode sig) _ class key call.is_class declared settled call.is_key

  -- the mode fits the receiver and the key
  pub mode_fits : (receiver : Option ℕ) → is_some y ≡ is_some receiver → HasReceiverByMode mode y → FitsMode p mode receiver key
  mode_fits receiver same has =
      let k = map_at key_of (methods_of w.classes) key key_has.method key_has.there in
      (λ e. has (same ∙ e), key_of key_has.method, subst (λ ks. slice_get ks key ≡ Some (key_of key_has.method)) (sym made.link.keys) k, ap (λ (k : MethodKey). k.is_static) key_has.has)

  -- as many arguments as parameters
  arguments : length args ≡ length sig.params
  unfolding plain
  arguments = elim (cases_eq (length args) (length sig.params)) [ inl same ↦ same | inr other ↦ absurd (st.allowed index rule.BadArguments (inl (plain, other))) ]

  -- the methods of the rows are numbered
  target_row : (i target : ℕ) → slice_get targets i ≡ Some target → (row : ℕ) × MayRun w mode class key row × (slice_get p.method_rows target ≡ Some row)
  target_row i target e =
      let row = each_right (IsMethodNumber (scope_of w p m st.linked.body)) call.rows targets i target call.numbered e in
      (row.0, (call.are_rows.each row.0).0 (i, row.1), row.2)

  -- a target is a method
  pub target_below : (i target : ℕ) → slice_get targets i ≡ Some target → target < length p.methods
  target_below i target e =
      let row = target_row i target e in
      let below = slice_get-below p.method_rows target row.0 row.2 in
      omega (arith, below, methods_many w p made)

  -- a target suits the call
  pub suits : (receiver : Option ℕ) → is_some y ≡ is_some receiver → HasReceiverByMode mode y → (i target : ℕ) → slice_get targets i ≡ Some target
      → SuitsCall p receiver (length codes) target
  suits receiver same has i target e =
      let row = target_row i target e in
      let l2 = each_left (IsLinkedRow w p) p.method_rows made.link.methods.before target row.0 made.link.methods.each row.2 in
      let m2 = stands_row w p made target row.0 l2.0 row.2 l2.2 in
      let keyed = run_has_key w p made mode (called_key m.names mode sig) class key row.0 row.1 call.is_key in
      let one : keyed.method ≡ m2.0 = cc (keyed.there, m2.1) in
      let has_key = ap (λ m. method_key m) (sym one) ∙ keyed.has in
      let flag : m2.0.decl.is_static ≡ is_static_mode mode = ap (λ (k : MethodKey). k.is_static) has_key in
      let params = ap (λ (k : MethodKey). length k.params) has_key in
      let below = slice_get-below p.method_rows target row.0 row.2 in
      record {
        method = l2.0;
        there = row_at w p made target l2.0 l2.1;
        not_root = omega (arith, below, methods_many w p made);
        has_statements = has_code w p made m2.0 l2.0 m2.2;
        has_this = m2.2.linked.has_this ∙ ap not flag ∙ sym (other_flag (is_some receiver) (is_static_mode mode) (λ e. has (same ∙ e)));
        params = m2.2.linked.params ∙ sym (length-map m2.0.decl.params _) ∙ params ∙ length-map sig.params _ ∙ sym arguments ∙ call.are_args.as_many;
      }
