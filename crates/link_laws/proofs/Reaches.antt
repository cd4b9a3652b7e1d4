-- Each method of a linked program is reached by targets of calls from the root.
use Rattle.std.proofs.Common.{◌≡◌, ℕ, zero, suc, ◌+◌, Some, None, List, [], ◌∷◌, ◌++◌, length, map, slice_get, refl, sym, ap, ◌∙◌, subst, inl, inr, arith}
use Rattle.std.proofs.lemmas.Option.{same_Some}
use Rattle.lists.specs.Lists.{Has}
use Rattle.lists.proofs.Places.{slice_get-append_left, slice_get-below, slice_get-pushed}
use Rattle.lists.proofs.Joined.{slice_get-append_right, slice_get-appended}
use Rattle.jim_ast.specs.declared.syntax.Body.{Body}
use Rattle.jim_ast.specs.declared.syntax.Stmt.{Stmt}
use Rattle.jim_ast.specs.declared.syntax.Stmt.TheVariants as stmt
use Rattle.link_rules.specs.Classes.{DeclaredMethod, methods_of}
use Rattle.link_rules.specs.Linked.{IsLinkedRow, LinkedMethod, LinkedProgram}
use Rattle.link_rules.specs.Reach.{IsInitialized, Reached, called, initialized, root}
use Rattle.link_rules.specs.Root.{initializer_call, main_call, root_number, root_of, root_stmts}
use Rattle.link_rules.specs.Targets.{Calls}
use Rattle.link_rules.specs.WellLinked.{HasTarget, IsReachedByCalls, root as root_itself, called as by_call}
use Rattle.link_rules.specs.World.{World}
use Rattle.link_laws.proofs.CallCode.{target_of}
use Rattle.link_laws.proofs.Lists.{at_map, each_left, each_right, increasing_apart, map_at}
use Rattle.link_laws.proofs.Stands.{IsMade, method_at, root_at, row_at, stands_root, stands_row}

-- the end of the root's statements
abbrev ending : List Stmt
ending = main_call ∷ stmt.Return None ∷ []

-- a statement of the root that initializes some classes is one of the root that initializes these too
move_behind : (some all : List ℕ) → ((c : ℕ) → Has some c → Has all c) → (i : ℕ) (s : Stmt)
    → slice_get (map initializer_call some ++ ending) i ≡ Some s → Has (map initializer_call all ++ ending) s
move_behind some all more i s e = elim (slice_get-appended (map initializer_call some) ending i s e) [
  | inl a ↦
      let c = at_map initializer_call some i s a in
      let there = more c.0 (i, c.1) in
      (there.0, slice_get-append_left (map initializer_call all) ending there.0 s (map_at initializer_call all there.0 c.0 there.1 ∙ ap Some (sym c.2)))
  | inr a ↦ (length (map initializer_call all) + a.0, slice_get-append_right (map initializer_call all) ending a.0 ∙ a.2)
]

-- the same from the first statement on
move_stmt : (some all : List ℕ) → ((c : ℕ) → Has some c → Has all c) → (i : ℕ) (s : Stmt) → slice_get (root_stmts some) i ≡ Some s → Has (root_stmts all) s
move_stmt some all more zero s e = (0, e)
move_stmt some all more (suc zero) s e = (1, e)
move_stmt some all more (suc (suc zero)) s e = (2, e)
move_stmt some all more (suc (suc (suc i))) s e = let h = move_behind some all more i s e in (suc (suc (suc h.0)), h.1)

-- a call of the root that initializes some classes is one of the root that initializes these too
move_call : (w : World) (some all : List ℕ) → ((c : ℕ) → Has some c → Has all c) → (index row : ℕ) → Calls w (root_of w some) index row
    → (place : ℕ) × Calls w (root_of w all) place row
move_call w some all more index row calls =
    let at = calls.names.at in
    let s = subst (λ (b : Body). slice_get b.stmts index ≡ Some at.stmt) (same_Some at.here.body _ (sym at.here.in_body)) at.here.there in
    let moved = move_stmt some all more index at.stmt s in (
      moved.0,
      record {
        names = record {
          at = record { stmt = at.stmt; here = record { body = _; in_body = refl; there = moved.1 }; call = at.call; is_call = at.is_call };
          class = calls.names.class;
          is_class = calls.names.is_class;
          key = calls.names.key;
          is_key = calls.names.is_key;
        };
        runs = calls.runs;
      },
    )

module _ (w : World) (p : LinkedProgram) (made : IsMade w p) where
  -- a target is reached, by whichever number it goes
  by_target : (i index target j : ℕ) → target ≡ j → IsReachedByCalls p (length p.method_rows) i → HasTarget p i index target
      → IsReachedByCalls p (length p.method_rows) j
  by_target i index target j same reached has = subst (IsReachedByCalls p (length p.method_rows)) same (by_call reached has)

  -- what a call of a root may run is reached
  from_root : (some : List ℕ) → ((c : ℕ) → Has some c → Has made.link.initialized c) → (index row : ℕ) → Calls w (root_of w some) index row → (j : ℕ)
      → slice_get p.method_rows j ≡ Some row
      → IsReachedByCalls p (length p.method_rows) j
  from_root some more index row calls j e =
      let moved = move_call w some made.link.initialized more index row calls in
      let target = target_of w p made (root_of w made.link.initialized) made.link.methods.root (stands_root w p made) (length p.method_rows) (root_at w p made) moved.0 row moved.1 in
      let same = increasing_apart p.method_rows made.link.methods.ordered target.0 j row target.1 e in
      by_target (length p.method_rows) moved.0 target.0 j same root_itself target.2

  -- what a call of a reached method may run is reached
  from_method : (number i : ℕ) (m : DeclaredMethod) → slice_get p.method_rows i ≡ Some number → IsReachedByCalls p (length p.method_rows) i
      → slice_get (methods_of w.classes) number ≡ Some m
      → (index row : ℕ) → Calls w m index row → (j : ℕ) → slice_get p.method_rows j ≡ Some row → IsReachedByCalls p (length p.method_rows) j
  from_method number i m at reached there index row calls j e =
      let l = each_left (IsLinkedRow w p) p.method_rows made.link.methods.before i number made.link.methods.each at in
      let m2 = stands_row w p made i number l.0 at l.2 in
      let one : m ≡ m2.0 = cc (there, m2.1) in
      let target = target_of w p made m2.0 l.0 m2.2 i (row_at w p made i l.0 l.1) index row (subst (λ m. Calls w m index row) one calls) in
      let same = increasing_apart p.method_rows made.link.methods.ordered target.0 j row target.1 e in
      by_target i index target.0 j same reached target.2

  -- a class that is to be initialized is one of those that the root initializes
  only : (class : ℕ) → IsInitialized w class → (c i : ℕ) → slice_get (class ∷ []) i ≡ Some c → Has made.link.initialized c
  only class init c zero e = subst (Has made.link.initialized) (same_Some class c e) ((made.link.are_initialized.each class).1 init)
  only class init c (suc i) e = cc

  -- each row that is reached is reached by calls
  reaches : {row : ℕ} → Reached w row → (j : ℕ) → slice_get p.method_rows j ≡ Some row → IsReachedByCalls p (length p.method_rows) j
  reaches root = λ j e. let below = ((made.link.methods.reached (root_number w)).0 (j, e)).0 in absurd (omega arith)
  reaches (called {number} {index} {row} {m} r is target) = λ j e. elim (slice_get-pushed (methods_of w.classes) (root_of w []) number m is) [
    | inl a ↦
        let kept = (made.link.methods.reached number).1 (slice_get-below (methods_of w.classes) number m a, r) in
        from_method number kept.0 m kept.1 (reaches r kept.0 kept.1) a index row target.calls j e
    | inr a ↦ from_root [] (λ c h. cc (h.1)) index row (subst (λ m. Calls w m index row) a.1 target.calls) j e
  ]
  reaches (initialized {class} {index} {row} init target) = λ j e. from_root (class ∷ []) (λ c h. only class init c h.0 h.1) index row target.calls j e

  -- each method is reached
  pub all_reached : (number : ℕ) (l : LinkedMethod) → slice_get p.methods number ≡ Some l → IsReachedByCalls p (length p.method_rows) number
  all_reached number l e = elim (method_at w p made number l e) [
    | inl a ↦
        let row = each_right (IsLinkedRow w p) p.method_rows made.link.methods.before number l made.link.methods.each a in
        reaches ((made.link.methods.reached row.0).0 (number, row.1)).1 number row.1
    | inr a ↦ subst (IsReachedByCalls p (length p.method_rows)) (made.link.methods.each.as_many ∙ sym a.0) root_itself
  ]
