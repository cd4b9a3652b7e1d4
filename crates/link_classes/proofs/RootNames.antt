-- The root names its names within its own, and its body is as it is read.
use Rattle.std.proofs.Common.{◌≡◌, ◌≢◌, ℕ, ◌+◌, ◌<◌, ◌≤◌, ◌++◌, List, [], ◌∷◌, All, Some, true, false, length, map, flat_map, sym, subst, arith, true≢false}
use Rattle.std.proofs.lemmas.List.{length-map}
use Rattle.std.proofs.lemmas.List.Elements.{All-append, All-cons, All-head, All-map, All-nil, All-tail, All-weaker}
use Rattle.jim_ast.specs.declared.names.NameId.{NameId}
use Rattle.jim_ast.specs.declared.syntax.Body.{Body}
use Rattle.jim_ast.specs.declared.syntax.Label.{Label}
use Rattle.jim_ast.specs.declared.syntax.Stmt.{Stmt}
use Rattle.link_rules.specs.Classes.{class_name}
use Rattle.link_rules.specs.Conditions.{AreWithin, IsReadBody, IsReadStmt, method_names, stmt_names}
use Rattle.link_rules.specs.Root.{initializer_call, main_call, make_args, name_at, root_names, root_of, root_stmts}
use Rattle.link_rules.specs.World.{World}
use Rattle.link_classes.specs.RootParts.{plain_return}

some_one : {X : Type 0} (x y : X) → Some x ≡ Some y → x ≡ y
some_one x y e = cc (e)

-- what is made of a list, of whose elements each makes what has the fact
pub All-flat_map : {X Y : Type 0} (P : Y → Type 0) (f : X → List Y) (xs : List X) → All (λ x. All P (f x)) xs → All P (flat_map f xs)
All-flat_map P f [] h = All-nil P
All-flat_map P f (x ∷ xs) h = All-append P (f x) (flat_map f xs) (All-head (λ x. All P (f x)) x xs h) (All-flat_map P f xs (All-tail (λ x. All P (f x)) x xs h))

-- what holds of each of the root's statements
each_stmt : (Q : Stmt → Type 0) (initialized : List ℕ) → All Q make_args → All (λ class. Q (initializer_call class)) initialized → Q main_call → Q plain_return
    → All Q (root_stmts initialized)
each_stmt Q initialized made calls main return =
    All-append Q make_args (map initializer_call initialized ++ main_call ∷ plain_return ∷ []) made
    (All-append Q (map initializer_call initialized) (main_call ∷ plain_return ∷ []) (All-map Q initializer_call initialized calls)
    (All-cons Q main_call (plain_return ∷ []) main (All-cons Q plain_return [] return (All-nil Q))))

three : {X : Type 0} (P : X → Type 0) (a b c : X) → P a → P b → P c → All P (a ∷ b ∷ c ∷ [])
three P a b c p q r = All-cons P a (b ∷ c ∷ []) p (All-cons P b (c ∷ []) q (All-cons P c [] r (All-nil P)))

two : {X : Type 0} (P : X → Type 0) (a b : X) → P a → P b → All P (a ∷ b ∷ [])
two P a b p q = All-cons P a (b ∷ []) p (All-cons P b [] q (All-nil P))

module _ (w : World) where
  IsWithin : NameId → Type 0
  IsWithin id = id.0 < length (root_names w)

  below : (n : ℕ) → n < 6 + length w.classes → IsWithin (name_at n)
  unfolding IsWithin
  below n h = omega (arith, h, length-map w.classes class_name)

  stmts_within : (initialized : List ℕ) → All (λ class. class < length w.classes) initialized → All IsWithin (flat_map stmt_names (root_stmts initialized))
  stmts_within initialized there =
      All-flat_map IsWithin stmt_names (root_stmts initialized)
      (each_stmt (λ s. All IsWithin (stmt_names s)) initialized
      (three (λ s. All IsWithin (stmt_names s)) _ _ _ (two IsWithin (name_at 0) (name_at 2) (below 0 (omega arith)) (below 2 (omega arith)))
      (two IsWithin (name_at 1) (name_at 2) (below 1 (omega arith)) (below 2 (omega arith)))
      (two IsWithin (name_at 1) (name_at 0) (below 1 (omega arith)) (below 0 (omega arith))))
      (All-weaker (λ class. class < length w.classes) (λ class. All IsWithin (stmt_names (initializer_call class)))
      (λ class h. two IsWithin (name_at (6 + class)) (name_at 3) (below (6 + class) (omega (arith, h))) (below 3 (omega arith))) initialized there)
      (All-append IsWithin (name_at 5 ∷ name_at 4 ∷ []) (name_at 2 ∷ name_at 1 ∷ [])
      (two IsWithin (name_at 5) (name_at 4) (below 5 (omega arith)) (below 4 (omega arith)))
      (two IsWithin (name_at 2) (name_at 1) (below 2 (omega arith)) (below 1 (omega arith))))
      (All-nil IsWithin))

  pub root_within : (initialized : List ℕ) → All (λ class. class < length w.classes) initialized → AreWithin (root_names w) (method_names (root_of w initialized).decl)
  unfolding IsWithin
  root_within initialized there =
      let stmts = flat_map stmt_names (root_stmts initialized) in
      let body = All-append IsWithin (name_at 0 ∷ name_at 1 ∷ []) stmts (two IsWithin (name_at 0) (name_at 1) (below 0 (omega arith)) (below 1 (omega arith))) (stmts_within initialized there) in
      let none = All-nil IsWithin in
      All-cons IsWithin (name_at 0) (name_at 0 ∷ name_at 1 ∷ stmts ++ [] ++ [] ++ []) (below 0 (omega arith))
      (All-append IsWithin ((name_at 0 ∷ name_at 1 ∷ stmts) ++ [] ++ []) [] (All-append IsWithin ((name_at 0 ∷ name_at 1 ∷ stmts) ++ []) [] (All-append IsWithin (name_at 0 ∷ name_at 1 ∷ stmts) [] body none) none) none)

  pub root_read : (initialized : List ℕ) (body : Body) → (root_of w initialized).decl.body ≡ Some body → IsReadBody body
  root_read initialized body h =
      let static : false ≢ true = λ e. true≢false (sym e) in
      subst IsReadBody (some_one _ body h) (record {
        stmts = each_stmt IsReadStmt initialized (three IsReadStmt _ _ _ tt tt tt) (λ k d below. static) static tt;
        labels = All-nil (λ (label : Label). label.index ≤ length (root_stmts initialized));
      })
