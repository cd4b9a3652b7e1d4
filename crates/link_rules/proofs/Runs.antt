-- The targets of a call stand in one order.
use Rattle.std.proofs.Common.{◌≡◌, ℕ, zero, suc, ◌<◌, ◌⊎◌, Some, List, [], ◌∷◌, ◌+◌, refl, sym, subst, ◌∙◌, slice_get, inl, inr, arith}
use Rattle.std.specs.Prelude.{AllPairs, ◌↔◌}
use Rattle.std.proofs.lemmas.Option.{get_or_from_slice_get}
use Rattle.class_rules.specs.Lookups.{OnPath, Resolve}
use Rattle.class_rules.proofs.LawFacts.{path_one}
use Rattle.class_rules.proofs.Selected.{selection_one}
use Rattle.lists.specs.Lists.{Has, IsApart}
use Rattle.lists.proofs.Places.{slice_get-below, slice_get-there}
use Rattle.jim_ast.specs.declared.syntax.Mode.TheVariants.{Special, Virtual, Interface, Static}
use Rattle.link_rules.specs.Laws.{HasOneOrder}
use Rattle.link_rules.specs.Targets.{ComesBefore, Selects}
use Rattle.link_rules.specs.World.{World}

-- an element is the first one or stands behind it
first_or_behind : (y : ℕ) (ys : List ℕ) (a : ℕ) → Has (y ∷ ys) a → (a ≡ y) ⊎ Has ys a
first_or_behind y ys a h = at h.0 h.1
  where
    at : (i : ℕ) → slice_get (y ∷ ys) i ≡ Some a → (a ≡ y) ⊎ Has ys a
    at zero e = inl cc
    at (suc i) e = inr (i, e)

module _ (R : ℕ → ℕ → Type 0) where
  -- the first element stands in the relation to each behind it
  first_before : (y : ℕ) (ys : List ℕ) (a : ℕ) → AllPairs R (y ∷ ys) → Has ys a → R y a
  first_before y ys a ordered h =
      subst (R y) (get_or_from_slice_get ys h.0 a a h.1) (ordered 0 (suc h.0) a (omega arith) (omega (arith, slice_get-below ys h.0 a h.1)))

  behind_first : (y : ℕ) (ys : List ℕ) → AllPairs R (y ∷ ys) → AllPairs R ys
  behind_first y ys ordered i j d before below = ordered (suc i) (suc j) d (omega arith) (omega arith)

  -- of an ordered list an element that equals the first one doesn't stand behind it
  none_again : (y : ℕ) (ys : List ℕ) (a : ℕ) → (R y y → ⊥) → AllPairs R (y ∷ ys) → a ≡ y → Has ys a → ⊥
  none_again y ys a irreflexive ordered same h = irreflexive (subst (R y) same (first_before y ys a ordered h))

  -- lists of the same elements that an asymmetric relation orders are one
  pub ordered_one : (xs ys : List ℕ) → ((a b : ℕ) → Has xs a → Has xs b → R a b → R b a → ⊥) → ((a : ℕ) → Has xs a → Has ys a) → ((a : ℕ) → Has ys a → Has xs a)
      → AllPairs R xs → AllPairs R ys → xs ≡ ys
  ordered_one [] [] asymmetric to from p q = refl
  ordered_one [] (y ∷ ys) asymmetric to from p q = let h = from y (0, refl) in cc (h.1)
  ordered_one (x ∷ xs) [] asymmetric to from p q = let h = to x (0, refl) in cc (h.1)
  ordered_one (x ∷ xs) (y ∷ ys) asymmetric to from p q =
      let first : x ≡ y = elim (first_or_behind y ys x (to x (0, refl))) [
        | inl same ↦ same
        | inr x_behind ↦ elim (first_or_behind x xs y (from y (0, refl))) [
          | inl same ↦ sym same
          | inr y_behind ↦ absurd (asymmetric x y (0, refl) (from y (0, refl)) (first_before x xs y p y_behind) (first_before y ys x q x_behind))
        ]
      ] in
      let irreflexive : R x x → ⊥ = λ r. asymmetric x x (0, refl) (0, refl) r r in
      let rest : xs ≡ ys = ordered_one xs ys
      (λ a b h k. asymmetric a b (suc h.0, h.1) (suc k.0, k.1))
      (λ a h. elim (first_or_behind y ys a (to a (suc h.0, h.1))) [ inl same ↦ absurd (none_again x xs a irreflexive p (same ∙ sym first) h) | inr behind ↦ behind ])
      (λ a h. elim (first_or_behind x xs a (from a (suc h.0, h.1))) [
        | inl same ↦ absurd (none_again y ys a (subst (λ z. R z z → ⊥) first irreflexive) q (same ∙ first) h)
        | inr behind ↦ behind
      ])
      (behind_first x xs p)
      (behind_first y ys q) in
      cc

some_one : (a b : ℕ) → Some a ≡ Some b → a ≡ b
some_one a b e = cc

module _ (w : World) (class key : ℕ) where
  -- two methods don't come before each other where a class selects one: each class that selects it would stand behind another
  descends : (n a b receiver : ℕ) → ComesBefore w class key a b → ComesBefore w class key b a → receiver < n → Selects w class key receiver b → ⊥
  descends zero a b receiver one two below selects = absurd (omega arith)
  descends (suc n) a b receiver one two below selects =
      let lower = one receiver selects in
      let lowest = two lower.0 lower.2 in
      descends n a b lowest.0 one two (omega (arith, lower.1, lowest.1)) lowest.2

  -- rows that are what the classes select
  by_receivers : (one two : List ℕ) → ((row : ℕ) → Has one row ↔ ((receiver : ℕ) × Selects w class key receiver row)) → ((row : ℕ) → Has two row ↔ ((receiver : ℕ) × Selects w class key receiver row))
      → AllPairs (ComesBefore w class key) one → AllPairs (ComesBefore w class key) two → one ≡ two
  by_receivers one two each each_too p q =
      ordered_one (ComesBefore w class key) one two
      (λ a b h k before after. let s = (each b).0 k in descends (s.0 + 1) a b s.0 before after (omega arith) s.1)
      (λ a h. (each_too a).1 ((each a).0 h))
      (λ a h. (each a).1 ((each_too a).0 h))
      p q

  module _ (Found : ℕ → Type 0) (one_found : (a b : ℕ) → Found a → Found b → a ≡ b) where
    -- rows of which each is found where one alone may be are at most one
    no_pair : (rows : List ℕ) → ((row : ℕ) → Has rows row → Found row) → IsApart rows → AllPairs (λ a b. ⊥) rows
    no_pair rows found apart i j d before below =
        let later = slice_get-there rows j below in
        let earlier = slice_get-there rows i (omega arith) in
        let same = one_found earlier.0 later.0 (found earlier.0 (i, earlier.1)) (found later.0 (j, later.1)) in
        let here : slice_get rows j ≡ Some earlier.0 = cc (later.1, same) in
        omega (arith, apart i j earlier.0 earlier.1 here)

    alone : (one two : List ℕ) → ((row : ℕ) → Has one row ↔ Found row) → ((row : ℕ) → Has two row ↔ Found row)
        → IsApart one → IsApart two → one ≡ two
    alone one two each each_too p q =
        ordered_one (λ a b. ⊥) one two
        (λ a b h k before after. before)
        (λ a h. (each_too a).1 ((each a).0 h))
        (λ a h. (each a).1 ((each_too a).0 h))
        (no_pair one (λ row. (each row).0) p)
        (no_pair two (λ row. (each_too row).0) q)

  -- rows that look-up along the parents finds, and rows that selection finds
  path_alone : (one two : List ℕ) → ((row : ℕ) → Has one row ↔ OnPath w.rows class key (Some row)) → ((row : ℕ) → Has two row ↔ OnPath w.rows class key (Some row))
      → IsApart one → IsApart two → one ≡ two
  path_alone = alone (λ row. OnPath w.rows class key (Some row)) (λ a b p q. some_one a b (path_one w.rows class key (Some a) (Some b) p q))

  selected_alone : (one two : List ℕ) → ((row : ℕ) → Has one row ↔ Resolve w.rows class key (Some row)) → ((row : ℕ) → Has two row ↔ Resolve w.rows class key (Some row))
      → IsApart one → IsApart two → one ≡ two
  selected_alone = alone (λ row. Resolve w.rows class key (Some row)) (λ a b p q. some_one a b (selection_one w.rows class key (Some a) (Some b) p q))

pub order_one : HasOneOrder
order_one w Static class key one two p q = path_alone w class key one two p.each q.each p.apart q.apart
order_one w Special class key one two p q = selected_alone w class key one two p.each q.each p.apart q.apart
order_one w Virtual class key one two p q = by_receivers w class key one two p.each q.each p.ordered q.ordered
order_one w Interface class key one two p q = by_receivers w class key one two p.each q.each p.ordered q.ordered
