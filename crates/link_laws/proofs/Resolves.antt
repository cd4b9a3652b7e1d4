-- Look-up along the parents, and the selection of a method, have an answer, where each parent is a class and no class is its own ancestor.
use Rattle.std.proofs.Common.{◌≡◌, ℕ, zero, suc, ◌+◌, ◌<◌, ◌≤◌, ◌||◌, Bool, true, false, eqb, Option, Some, None, List, [], ◌∷◌, length, slice_get, refl, sym, subst, inl, inr, arith, eqb-true, true≢false}
use Rattle.std.specs.List.{AllByRecursion, IsDistinct, list_any}
use Rattle.std.proofs.lemmas.Bool.{cases_order}
use Rattle.std.proofs.lemmas.Map.Keys.{IsDistinct-cons}
use Rattle.std.proofs.lemmas.Map.Steps.{length-le_from_distinct_below}
use Rattle.class_rules.specs.Lookups.{OnPath, Resolve, ambiguous, by_default, ended, found, further, nowhere, on_path, own_body}
use Rattle.class_rules.specs.Paths.{ProperPath, here, step}
use Rattle.class_rules.specs.Rows.{HasParent, IsOwnAncestor, NamesUnknown, Rows, Step}
use Rattle.class_rules.specs.declared.rows.ClassRow.{ClassRow}
use Rattle.class_rules.proofs.Decided.{only_or_other, some_default_decided}
use Rattle.class_rules.proofs.LawFacts.{sub_transitive}
use Rattle.lists.proofs.Places.{slice_get-there}

-- no numbers are apart
distinct-none : IsDistinct eqb []
unfolding IsDistinct
distinct-none = tt

-- the element that a test finds has what each has
any_has : (P : ℕ → Type 0) (xs : List ℕ) (q : ℕ) → AllByRecursion P xs → list_any (eqb q) xs ≡ true → P q
any_has P [] q all e = absurd (true≢false (sym e))
any_has P (x ∷ xs) q all e = by (eqb q x) refl e (any_has P xs q all.1)
  where
    by : (b : Bool) → eqb q x ≡ b → (b || list_any (eqb q) xs) ≡ true → (list_any (eqb q) xs ≡ true → P q) → P q
    by true is e rest = subst P (sym (eqb-true q x is)) all.0
    by false is e rest = rest e

-- a fact of each element gives another
all_map : (P Q : ℕ → Type 0) (xs : List ℕ) → ((x : ℕ) → P x → Q x) → AllByRecursion P xs → AllByRecursion Q xs
all_map P Q [] f all = tt
all_map P Q (x ∷ xs) f all = (f x all.0, all_map P Q xs f all.1)

module _ (rows : Rows) (known : (a : ℕ) → NamesUnknown rows.classes rows.implements a → ⊥) (acyclic : (a : ℕ) → IsOwnAncestor rows.classes rows.implements a → ⊥) (key : ℕ) where
  -- a class of the rows from which the walk came
  Before : ℕ → ℕ → Type 0
  Before c d = (d < length rows.classes) × ProperPath (Step rows.classes rows.implements) d c

  -- a class isn't one that leads to it
  other : (c d : ℕ) → Before c d → eqb c d ≡ false
  unfolding Before
  other c d b = by (eqb c d) refl
    where
      by : (e : Bool) → eqb c d ≡ e → eqb c d ≡ false
      by true is = let same : c ≡ d = eqb-true c d is in absurd (acyclic c (subst (λ x. ProperPath (Step rows.classes rows.implements) x c) (sym same) b.1))
      by false is = is

  -- what leads to a class leads to its parent
  longer : (c p d : ℕ) → HasParent rows.classes c p → Before c d → Before p d
  unfolding Before
  longer c p d h b = (b.0, (b.1.0, b.1.1, sub_transitive rows b.1.0 c p b.1.2 (step (inl h) here)))

  -- a class leads to its parent
  start : (c p : ℕ) → c < length rows.classes → HasParent rows.classes c p → Before p c
  unfolding Before
  start c p below h = (below, (p, inl h, here))

  -- what leads to a class is a class
  below_all : (c d : ℕ) → Before c d → d < length rows.classes
  unfolding Before
  below_all c d b = b.0

  -- the look-up has an answer, as each class is met once
  walk : (fuel c : ℕ) (seen : List ℕ) → c < length rows.classes → AllByRecursion (Before c) seen → IsDistinct eqb seen
      → fuel + length seen ≡ length rows.classes
      → (r : Option ℕ) × OnPath rows c key r
  walk zero c seen below all distinct full =
      let more : IsDistinct eqb (c ∷ seen) = IsDistinct-cons eqb c seen (all_map (Before c) (λ y. eqb c y ≡ false) seen (other c) all) distinct in
      let inside : AllByRecursion (λ d. d < length rows.classes) (c ∷ seen) = (below, all_map (Before c) (λ d. d < length rows.classes) seen (below_all c) all) in
      let few : length (c ∷ seen) ≤ length rows.classes = length-le_from_distinct_below (c ∷ seen) (length rows.classes) more (λ q. any_has (λ d. d < length rows.classes) (c ∷ seen) q inside) in
      absurd (omega arith)
  walk (suc fuel) c seen below all distinct full =
      let row = slice_get-there rows.classes c below in
      at (own_body rows.methods c key) refl row.0 row.1 row.0.parent refl (λ p. walk fuel p (c ∷ seen))
    where
      at : (o : Option ℕ) → own_body rows.methods c key ≡ o → (row : ClassRow) → slice_get rows.classes c ≡ Some row → (parent : Option ℕ) → row.parent ≡ parent
          → ((p : ℕ) → p < length rows.classes → AllByRecursion (Before p) (c ∷ seen) → IsDistinct eqb (c ∷ seen) → fuel + length (c ∷ seen) ≡ length rows.classes → (r : Option ℕ) × OnPath rows p key r)
          → (r : Option ℕ) × OnPath rows c key r
      at (Some r) is row there parent names rest = (Some r, found (sym is))
      at None is row there None names rest = (None, ended (sym is) (record { row = row; there = there; names = names }))
      at None is row there (Some p) names rest =
          let h : HasParent rows.classes c p = record { row = row; there = there; names = names } in
          let inside : p < length rows.classes = elim (cases_order p (length rows.classes)) [
            | inl same ↦ absurd (known c (p, inl h, omega (arith, same)))
            | inr apart ↦ elim apart [ inl less ↦ less | inr more ↦ absurd (known c (p, inl h, omega (arith, more))) ]
          ] in
          let more : IsDistinct eqb (c ∷ seen) = IsDistinct-cons eqb c seen (all_map (Before c) (λ y. eqb c y ≡ false) seen (other c) all) distinct in
          let above = rest p inside (start c p below h, all_map (Before c) (Before p) seen (λ d. longer c p d h) all) more (omega arith) in
          (above.0, further (sym is) h above.1)

  -- a class of the rows has an answer along its parents
  pub looks_up : (c : ℕ) → c < length rows.classes → (r : Option ℕ) × OnPath rows c key r
  looks_up c below = walk (length rows.classes) c [] below tt distinct-none (omega arith)

  -- where there is none along the parents, there is no default method, or one, or there are several
  by_defaults : (c : ℕ) → OnPath rows c key None → (r : Option ℕ) × Resolve rows c key r
  by_defaults c off = elim (some_default_decided rows c key) [
    | inl one ↦ elim (only_or_other rows c key one.0 one.1) [
      | inl only ↦ (Some one.0, by_default off one.1 only)
      | inr other ↦ (None, ambiguous (record { off_path = off; one = other.0; other = one.0; is_one = other.1; is_other = one.1; apart = other.2 }))
    ]
    | inr none ↦ (None, nowhere off (λ row d. none (row, d)))
  ]

  -- a class of the rows has an answer
  pub resolves : (c : ℕ) → c < length rows.classes → (r : Option ℕ) × Resolve rows c key r
  resolves c below = let up = looks_up c below in by up.0 up.1
    where
      by : (r : Option ℕ) → OnPath rows c key r → (r : Option ℕ) × Resolve rows c key r
      by (Some row) p = (Some row, on_path p)
      by None off = by_defaults c off
