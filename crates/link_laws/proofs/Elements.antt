-- The element types of the arrays that a method makes.
use Rattle.std.proofs.Common.{◌≡◌, ℕ, zero, suc, ◌+◌, ◌<◌, ◌≤◌, ◌⊎◌, Some, List, [], ◌∷◌, ◌++◌, length, map, flat_map, slice_get, refl, sym, ap, ◌∙◌, subst, inl, inr, arith}
use Rattle.std.specs.List.{enumerate_from}
use Rattle.std.proofs.lemmas.List.Kept.{AllPairs-cons}
use Rattle.std.proofs.lemmas.Option.{same_Some}
use Rattle.lists.specs.Lists.{Has, AreIncreasing}
use Rattle.lists.proofs.Joined.{slice_get-append_right, slice_get-appended}
use Rattle.jim_ast.specs.declared.names.NameId.{NameId}
use Rattle.jim_ast.specs.declared.syntax.Expr.{Expr}
use Rattle.jim_ast.specs.declared.syntax.Expr.TheVariants as expr
use Rattle.jim_ast.specs.declared.syntax.Invoke.TheVariants.{Plain, Dynamic}
use Rattle.jim_ast.specs.declared.syntax.Stmt.{Stmt}
use Rattle.jim_ast.specs.declared.syntax.Stmt.TheVariants as stmt
use Rattle.link_rules.specs.declared.code.Code.{Code}
use Rattle.link_rules.specs.declared.code.Code.TheVariants as code
use Rattle.link_rules.specs.Codes.{IsAssignment, IsCode, Scope}
use Rattle.link_rules.specs.Linked.{Element, element_at, elements_of}
use Rattle.link_rules.specs.WellLinked.{MakesArrays}
use Rattle.link_laws.proofs.Lists.{all_at, at_map}

-- what the element of a statement is, if it makes an array
abbrev HasOne : List (List ℕ) → ℕ → Stmt → Type 0
HasOne names n s = (a : Element) × (element_at names n s ≡ a ∷ []) × (a.index ≡ n)

assigned_one : (names : List (List ℕ)) (n : ℕ) (in_scope : Scope) (x : NameId) (e : Expr) (c : Code) → IsAssignment in_scope x e c → MakesArrays c
    → HasOne names n (stmt.Assign x e)
assigned_one names n in_scope x (expr.NewArray ty) (code.NewArray to) h makes = (_, refl, refl)
assigned_one names n in_scope x (expr.Invoke (Plain mode y sig args)) (code.NewArray to) h makes = elim h [ ]
assigned_one names n in_scope x (expr.Invoke Dynamic) (code.NewArray to) h makes = elim h [ ]
assigned_one names n in_scope x e (code.NewArray to) h makes = elim h [ ]
assigned_one names n in_scope x (expr.NewMulti ty sized) (code.NewMulti to levels) h makes = (_, refl, refl)
assigned_one names n in_scope x (expr.Invoke (Plain mode y sig args)) (code.NewMulti to levels) h makes = elim h [ ]
assigned_one names n in_scope x (expr.Invoke Dynamic) (code.NewMulti to levels) h makes = elim h [ ]
assigned_one names n in_scope x e (code.NewMulti to levels) h makes = elim h [ ]
assigned_one names n in_scope x e c h makes = elim makes [ ]

-- a statement whose code makes an array has an element
pub makes_one : (names : List (List ℕ)) (n : ℕ) (in_scope : Scope) (s : Stmt) (c : Code) → IsCode in_scope s c → MakesArrays c → HasOne names n s
makes_one names n in_scope (stmt.Assign x e) c h makes = assigned_one names n in_scope x e c h makes
makes_one names n in_scope (stmt.Call (Plain mode y sig args)) (code.NewArray to) h makes = elim h [ ]
makes_one names n in_scope (stmt.Call Dynamic) (code.NewArray to) h makes = elim h [ ]
makes_one names n in_scope s (code.NewArray to) h makes = elim h [ ]
makes_one names n in_scope (stmt.Call (Plain mode y sig args)) (code.NewMulti to levels) h makes = elim h [ ]
makes_one names n in_scope (stmt.Call Dynamic) (code.NewMulti to levels) h makes = elim h [ ]
makes_one names n in_scope s (code.NewMulti to levels) h makes = elim h [ ]
makes_one names n in_scope s c h makes = elim makes [ ]

-- a statement makes one array at most
expr_one : (names : List (List ℕ)) (n : ℕ) (x : NameId) (e : Expr)
    → (element_at names n (stmt.Assign x e) ≡ []) ⊎ ((a : Element) × (element_at names n (stmt.Assign x e) ≡ a ∷ []) × (a.index ≡ n))
expr_one names n x (expr.NewArray ty) = inr (_, refl, refl)
expr_one names n x (expr.NewMulti ty sized) = inr (_, refl, refl)
expr_one names n x e = inl refl

-- any statement makes one array at most, at its own index
at_most_one : (names : List (List ℕ)) (n : ℕ) (s : Stmt) → (element_at names n s ≡ []) ⊎ ((a : Element) × (element_at names n s ≡ a ∷ []) × (a.index ≡ n))
at_most_one names n (stmt.Assign x e) = expr_one names n x e
at_most_one names n s = inl refl

module _ (names : List (List ℕ)) where
  -- the element types from an index on
  from : ℕ → List Stmt → List Element
  from n stmts = flat_map (λ s. element_at names s.0 s.1) (enumerate_from n stmts)

  -- each array has its element type
  has_element : (n : ℕ) (stmts : List Stmt) (i : ℕ) (s : Stmt) → slice_get stmts i ≡ Some s → ((n : ℕ) → HasOne names n s)
      → (a : Element) × Has (from n stmts) a × (a.index ≡ n + i)
  unfolding from
  has_element n [] i made e one = cc
  has_element n (s ∷ stmts) zero made e one =
      let a = one n in
      let here = ap (element_at names n) (same_Some s made e) ∙ a.1 in
      (a.0, (0, ap (λ front. slice_get (front ++ flat_map (λ (s : ℕ × Stmt). element_at names s.0 s.1) (enumerate_from (n + 1) stmts)) 0) here), omega (arith, a.2))
  has_element n (s ∷ stmts) (suc i) made e one =
      let later = has_element (n + 1) stmts i made e one in
      let place = slice_get-append_right (element_at names n s) (flat_map (λ (s : ℕ × Stmt). element_at names s.0 s.1) (enumerate_from (n + 1) stmts)) later.1.0 in
      (later.0, (length (element_at names n s) + later.1.0, place ∙ later.1.1), omega (arith, later.2))

  -- indexes begin with that of the first statement
  at_least : (n : ℕ) (stmts : List Stmt) (a : Element) → Has (from n stmts) a → n ≤ a.index
  unfolding from
  at_least n [] a h = cc (h.1)
  at_least n (s ∷ stmts) a h = elim (slice_get-appended (element_at names n s) _ h.0 a h.1) [
    | inl b ↦ elim (at_most_one names n s) [
      | inl none ↦ let no = sym (ap (λ xs. slice_get xs h.0) none) ∙ b in cc
      | inr one ↦ let there = sym (ap (λ xs. slice_get xs h.0) one.1) ∙ b in first h.0 one.0 there one.2
    ]
    | inr b ↦ let later = at_least (n + 1) stmts a (b.0, b.2) in omega (arith, later)
  ]
    where
      first : (i : ℕ) (b : Element) → slice_get (b ∷ []) i ≡ Some a → b.index ≡ n → n ≤ a.index
      first zero b e is = let same = ap (λ (a : Element). a.index) (same_Some b a e) in omega (arith, is, same)
      first (suc i) b e is = cc

  -- an index is below those of later statements
  later : (n : ℕ) (stmts : List Stmt) (a : Element) → a.index ≡ n → (i y : ℕ) → slice_get (map (λ (a : Element). a.index) (from (n + 1) stmts)) i ≡ Some y → a.index < y
  later n stmts a is i y e =
      let b = at_map (λ (a : Element). a.index) (from (n + 1) stmts) i y e in
      let least = at_least (n + 1) stmts b.0 (i, b.1) in
      let same = b.2 in
      omega (arith, least, same)

  -- indexes increase
  increasing : (n : ℕ) (stmts : List Stmt) → AreIncreasing (map (λ (a : Element). a.index) (from n stmts))
  unfolding from
  increasing n [] = λ i j d before below. absurd (omega arith)
  increasing n (s ∷ stmts) = elim (at_most_one names n s) [
    | inl none ↦ subst (λ front. AreIncreasing (map (λ (a : Element). a.index) (front ++ from (n + 1) stmts))) (sym none) (increasing (n + 1) stmts)
    | inr one ↦ subst (λ front. AreIncreasing (map (λ (a : Element). a.index) (front ++ from (n + 1) stmts))) (sym one.1)
        (AllPairs-cons (λ x y. x < y) one.0.index (map (λ (a : Element). a.index) (from (n + 1) stmts)) (all_at (λ y. one.0.index < y) _ (later n stmts one.0 one.2)) (increasing (n + 1) stmts))
  ]

-- of all statements of a method
pub has_element_at : (names : List (List ℕ)) (stmts : List Stmt) (i : ℕ) (s : Stmt) → slice_get stmts i ≡ Some s → ((n : ℕ) → HasOne names n s)
    → (a : Element) × Has (elements_of names stmts) a × (a.index ≡ i)
unfolding from
has_element_at names stmts i s e one = let a = has_element names 0 stmts i s e one in (a.0, a.1, omega (arith, a.2))

-- the indexes of a method's arrays increase
pub elements_increase : (names : List (List ℕ)) (stmts : List Stmt) → AreIncreasing (map (λ (a : Element). a.index) (elements_of names stmts))
unfolding from
elements_increase names stmts = increasing names 0 stmts
