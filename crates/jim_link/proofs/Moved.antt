-- What a call of the root that initializes some classes may run is run by the root that initializes one of them, or none.
use Rattle.std.proofs.Common.{◌≡◌, ℕ, zero, suc, ◌⊎◌, ◌++◌, Some, None, List, [], ◌∷◌, map, slice_get, refl, sym, ap, subst, ◌∙◌, inl, inr}
use Rattle.std.proofs.lemmas.Option.{same_Some}
use Rattle.lists.specs.Lists.{Has}
use Rattle.jim_ast.specs.declared.syntax.Body.{Body}
use Rattle.jim_ast.specs.declared.syntax.Stmt.{Stmt}
use Rattle.jim_ast.specs.declared.syntax.Stmt.TheVariants as stmt
use Rattle.link_rules.specs.Faults.{AccessAt, CallsIn, MakesObject, NamesClass, NamesNoLocal}
use Rattle.link_rules.specs.Reach.{IsTarget, RefusesAt, TakesTargets}
use Rattle.link_rules.specs.Root.{args_local, initializer_call, main_call, root_of, root_stmts, text_local}
use Rattle.link_rules.specs.Statements.{HasBody, IsCallOf, PlainCall, PlainCallAt, StmtAt}
use Rattle.link_rules.specs.Targets.{CallAt, Calls}
use Rattle.link_rules.specs.World.{World}
use Rattle.link_rules.specs.declared.refusal.LinkKind.{LinkKind}
use Rattle.link_rules.specs.declared.refusal.LinkKind.TheVariants as rule

-- the body of a root
abbrev body_with : List ℕ → Body
body_with initialized = record { locals = text_local ∷ args_local ∷ []; stmts = root_stmts initialized; labels = []; traps = [] }

-- a root's body is that one
body_is : (w : World) (xs : List ℕ) (body : Body) → HasBody (root_of w xs) body → body_with xs ≡ body
body_is w xs body e = same_Some (body_with xs) body e

-- one statement stands in both roots
module _ (w : World) (xs ys : List ℕ) (i j : ℕ) (same : slice_get (root_stmts xs) i ≡ slice_get (root_stmts ys) j) where
  -- the statement
  abbrev moved : (s : Stmt) → StmtAt (root_of w xs) i s → StmtAt (root_of w ys) j s
  moved s at = record {
    body = body_with ys;
    in_body = refl;
    there = sym same ∙ subst (λ (b : Body). slice_get b.stmts i ≡ Some s) (sym (body_is w xs at.body at.in_body)) at.there;
  }

  -- its call
  abbrev moved_call : PlainCallAt (root_of w xs) i → PlainCallAt (root_of w ys) j
  moved_call at = record { stmt = at.stmt; here = moved at.stmt at.here; call = at.call; is_call = at.is_call }

  -- the call with its numbers
  abbrev moved_named : CallAt w (root_of w xs) i → CallAt w (root_of w ys) j
  moved_named n = record { at = moved_call n.at; class = n.class; is_class = n.is_class; key = n.key; is_key = n.is_key }

  -- what it may run
  abbrev moved_calls : (row : ℕ) → Calls w (root_of w xs) i row → Calls w (root_of w ys) j row
  moved_calls row c = record { names = moved_named c.names; runs = c.runs }

  -- the class that it calls a method of
  abbrev moved_in : (name : List ℕ) → CallsIn (root_of w xs) i name → CallsIn (root_of w ys) j name
  moved_in name c = record { at = moved_call c.at; named = c.named }

  -- the class that it makes an object of
  abbrev moved_makes : (name : List ℕ) → MakesObject (root_of w xs) i name → MakesObject (root_of w ys) j name
  moved_makes name m = record { stmt = m.stmt; here = moved m.stmt m.here; class = m.class; makes = m.makes; named = m.named }

  -- the field that it accesses
  abbrev moved_access : AccessAt (root_of w xs) i → AccessAt (root_of w ys) j
  moved_access a = record { stmt = a.stmt; here = moved a.stmt a.here; access = a.access; accesses = a.accesses }

  -- the class that it names
  abbrev moved_class : (name : List ℕ) → NamesClass (root_of w xs) i name → NamesClass (root_of w ys) j name
  moved_class name (inl m) = inl (moved_makes name m)
  moved_class name (inr (inl c)) = inr (inl (moved_in name c))
  moved_class name (inr (inr a)) = inr (inr (moved_access a.0, a.1))

  -- a local that isn't declared
  moved_local : NamesNoLocal (root_of w xs) i → NamesNoLocal (root_of w ys) j
  moved_local n = record {
    stmt = n.stmt;
    here = moved n.stmt n.here;
    local = n.local;
    named = n.named;
    missing = λ h. n.missing (subst (λ (b : Body). Has b.locals n.local) (body_is w xs n.here.body n.here.in_body) h);
  }

  -- a root has no trap
  no_trap : (body : Body) → HasBody (root_of w xs) body → (k : ℕ) → slice_get body.traps k ≡ None
  no_trap body e k = subst (λ (b : Body). slice_get b.traps k ≡ None) (body_is w xs body e) refl

  -- a rule that refuses it there refuses it here
  moved_refusal : (kind : LinkKind) → TakesTargets kind → RefusesAt w (root_of w xs) i kind → RefusesAt w (root_of w ys) j kind
  moved_refusal rule.UnknownLocal takes r = moved_local r
  moved_refusal rule.DynamicInvoke takes r = (r.0, moved r.0 r.1, r.2)
  moved_refusal rule.Reflection takes r = (r.0, moved_in r.0 r.1, r.2)
  moved_refusal rule.Threads takes (name, inl m, of) = (name, inl (moved_makes name m), of)
  moved_refusal rule.Threads takes (name, inr c, of) = (name, inr (moved_in name c), of)
  moved_refusal rule.UnknownClass takes (inl n) = inl (n.0, moved_class n.0 n.1, n.2)
  moved_refusal rule.UnknownClass takes (inr t) = (let none : slice_get t.body.traps t.there.0 ≡ None = no_trap t.body t.in_body t.there.0 in absurd (cc (none, t.there.1)))
  moved_refusal rule.UndeclaredCallee takes r = (moved_named r.0, r.1)
  moved_refusal rule.BadArguments takes (inl a) = inl (moved_call a.0, a.1)
  moved_refusal rule.BadArguments takes (inr t) = inr (record { to = t.to; mode = t.mode; receiver = t.receiver; sig = t.sig; args = t.args; here = moved _ t.here; void = t.void })
  moved_refusal rule.NativeCallee takes r = record { row = r.row; calls = moved_calls r.row r.calls; callee = r.callee; there = r.there; native = r.native }
  moved_refusal rule.AmbiguousDefault takes r = (moved_named r.0, r.1)
  moved_refusal rule.DuplicateClass takes r = absurd takes
  moved_refusal rule.UnknownParent takes r = absurd takes
  moved_refusal rule.CyclicClass takes r = absurd takes
  moved_refusal rule.NoEntry takes r = absurd takes
  moved_refusal rule.DuplicateLocal takes r = absurd takes
  moved_refusal rule.DuplicateLabel takes r = absurd takes
  moved_refusal rule.UnknownLabel takes r = absurd takes
  moved_refusal rule.FallsOff takes r = absurd takes
  moved_refusal rule.BadIdentity takes r = absurd takes
  moved_refusal rule.RetStatement takes r = absurd takes
  moved_refusal rule.NestedArray takes r = absurd takes
  moved_refusal rule.UnknownField takes r = absurd takes
  moved_refusal rule.AbstractNew takes r = absurd takes

-- a target of the statement there is one here
moved_target : (w : World) (xs ys : List ℕ) (i j row : ℕ) → slice_get (root_stmts xs) i ≡ slice_get (root_stmts ys) j → IsTarget w (root_of w xs) i row → IsTarget w (root_of w ys) j row
moved_target w xs ys i j row same t = record {
  calls = moved_calls w xs ys i j same row t.calls;
  allowed = λ kind takes r. t.allowed kind takes (moved_refusal w ys xs j i (sym same) kind takes r);
}

-- a statement behind the arguments: an initializer's call, or one of the last two
behind_args : (initialized : List ℕ) (k : ℕ) (s : Stmt) → slice_get (map initializer_call initialized ++ main_call ∷ stmt.Return None ∷ []) k ≡ Some s
    → ((c : ℕ) × Has initialized c × (s ≡ initializer_call c)) ⊎ (s ≡ main_call) ⊎ (s ≡ stmt.Return None)
behind_args [] zero s e = inr (inl (cc))
behind_args [] (suc zero) s e = inr (inr (cc))
behind_args [] (suc (suc k)) s e = absurd (cc (e))
behind_args (c ∷ cs) zero s e = inl (c, (0, refl), cc)
behind_args (c ∷ cs) (suc k) s e = elim (behind_args cs k s e) [
  | inl here ↦ inl (here.0, (suc here.1.0, here.1.1), here.2)
  | inr last ↦ inr last
]

-- a statement of the root that is a call
calls_of_root : (initialized : List ℕ) (index : ℕ) (s : Stmt) (call : PlainCall) → slice_get (root_stmts initialized) index ≡ Some s → IsCallOf s call
    → ((c : ℕ) × Has initialized c × (s ≡ initializer_call c)) ⊎ (s ≡ main_call)
calls_of_root initialized zero s call e is = absurd (let same = same_Some _ s e in let is_too = rw (← same) at is in cc (is_too))
calls_of_root initialized (suc zero) s call e is = absurd (let same = same_Some _ s e in let is_too = rw (← same) at is in cc (is_too))
calls_of_root initialized (suc (suc zero)) s call e is = absurd (let same = same_Some _ s e in let is_too = rw (← same) at is in cc (is_too))
calls_of_root initialized (suc (suc (suc k))) s call e is = elim (behind_args initialized k s e) [
  | inl here ↦ inl here
  | inr last ↦ elim last [
    | inl main ↦ inr main
    | inr return ↦ absurd (let is_too = rw return at is in cc (is_too))
  ]
]

-- the target of a call of the root
pub root_target : (w : World) (initialized : List ℕ) (index row : ℕ) → IsTarget w (root_of w initialized) index row
    → ((c : ℕ) × Has initialized c × IsTarget w (root_of w (c ∷ [])) 3 row) ⊎ IsTarget w (root_of w []) 3 row
root_target w initialized index row t =
    let at = t.calls.names.at in
    let there : slice_get (root_stmts initialized) index ≡ Some at.stmt =
    subst (λ (b : Body). slice_get b.stmts index ≡ Some at.stmt) (sym (body_is w initialized at.here.body at.here.in_body)) at.here.there in
    elim (calls_of_root initialized index at.stmt at.call there at.is_call) [
      | inl here ↦ inl (here.0, here.1, moved_target w initialized (here.0 ∷ []) index 3 row (there ∙ ap Some here.2) t)
      | inr main ↦ inr (moved_target w initialized [] index 3 row (there ∙ ap Some main) t)
    ]
