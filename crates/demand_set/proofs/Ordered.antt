-- The order of sites, by the numbers and bytes that are compared.
use Rattle.std.proofs.Common.{◌≡◌, ◌≢◌, ◌∙◌, ℕ, ◌<◌, ◌⊎◌, false, List, [], length, get_or, Some, refl, sym, ap, inl, inr, arith, AllPairs}
use Rattle.std.proofs.lemmas.Bool.{false≢true}
use Rattle.std.proofs.lemmas.Cmp.{ranked, then_total, on_total, nat_list_cmp_total}
use Rattle.std.proofs.lemmas.List.Sorted.{ranks_by, sorted_far}
use Rattle.std.proofs.lemmas.Option.{slice_get-get_or}
use Rattle.std.specs.Cmp.{IsTotalOrder}
use Rattle.std.specs.Cmp.Lexicographic.{slice_cmp, on_texts}
use Rattle.std.specs.FinMap.{nat_cmp-IsAntisymmetric, slice_cmp-IsAntisymmetric}
use Rattle.std.specs.List.Sorted.{IsSortedBy}
use Rattle.std.specs.Ordering.{is_lt, nat_cmp, ordering_reverse, ordering_then}
use Rattle.std.specs.declared.cmp.Ordering.{Ordering}
use Rattle.std.specs.declared.cmp.Ordering.TheVariants.{Less, Equal, Greater}
use Rattle.lists.specs.Lists.{IsApart}
use Rattle.link_rules.specs.Linked.{LinkedProgram}
use Rattle.link_rules.specs.WellLinked.{IsInForm}
use Rattle.link_sites.specs.declared.place.Place.{Place}
use Rattle.link_sites.specs.declared.site.Site.{Site}
use Rattle.link_sites.specs.declared.site.Site.TheVariants.{New, Nested, Raised, Text, Class}
use Rattle.link_sites.specs.Sites.{IsSite, IsTextBefore, Precedes}
use Rattle.demand_set.specs.Order.{numbers_of, site_cmp, text_of}

-- ---- two comparisons, one after the other

then_less : (o s : Ordering) → ordering_then o s ≡ Less → (o ≡ Less) ⊎ ((o ≡ Equal) × (s ≡ Less))
then_less Less s h = inl refl
then_less Equal s h = inr (refl, h)
then_less Greater s h = cc

then_equal : (o s : Ordering) → ordering_then o s ≡ Equal → (o ≡ Equal) × (s ≡ Equal)
then_equal Less s h = cc
then_equal Equal s h = (refl, h)
then_equal Greater s h = cc

number_less : (x y : ℕ) → nat_cmp x y ≡ Less → x < y
number_less x y h = ranked x y Less (sym h)

number_equal : (x y : ℕ) → nat_cmp x y ≡ Equal → x ≡ y
number_equal x y h = ranked x y Equal (sym h)

-- method, index, what of the statement, and which one
abbrev statement_cmp : ℕ → ℕ → ℕ → ℕ → ℕ → ℕ → ℕ → ℕ → Ordering
statement_cmp m i k n m' i' k' n' = ordering_then (nat_cmp m m') (ordering_then (nat_cmp i i') (ordering_then (nat_cmp k k') (ordering_then (nat_cmp n n') Equal)))

equal_less : Equal ≡ Less → ⊥
equal_less e = cc

-- of one statement
which_less : (k n k' n' : ℕ) → ordering_then (nat_cmp k k') (ordering_then (nat_cmp n n') Equal) ≡ Less → (k < k') ⊎ ((k ≡ k') × (n < n'))
which_less k n k' n' h = elim (then_less (nat_cmp k k') _ h) [
  | inl a ↦ inl (number_less k k' a)
  | inr a ↦ elim (then_less (nat_cmp n n') _ a.1) [
    | inl b ↦ inr (number_equal k k' a.0, number_less n n' b)
    | inr b ↦ absurd (equal_less b.1)
  ]
]

statement_less : (m i k n m' i' k' n' : ℕ) → ordering_then (statement_cmp m i k n m' i' k' n') Equal ≡ Less
    → (m < m') ⊎ (((m ≡ m') × (i < i')) ⊎ ((m ≡ m') × (i ≡ i') × ((k < k') ⊎ ((k ≡ k') × (n < n')))))
statement_less m i k n m' i' k' n' h = elim (then_less (statement_cmp m i k n m' i' k' n') Equal h) [
  | inl a ↦ elim (then_less (nat_cmp m m') _ a) [
    | inl b ↦ inl (number_less m m' b)
    | inr b ↦ elim (then_less (nat_cmp i i') _ b.1) [
      | inl d ↦ inr (inl (number_equal m m' b.0, number_less i i' d))
      | inr d ↦ inr (inr (number_equal m m' b.0, number_equal i i' d.0, which_less k n k' n' d.1))
    ]
  ]
  | inr a ↦ absurd (equal_less a.1)
]

statement_equal : (m i k n m' i' k' n' : ℕ) → ordering_then (statement_cmp m i k n m' i' k' n') Equal ≡ Equal → (m ≡ m') × (i ≡ i') × (k ≡ k') × (n ≡ n')
statement_equal m i k n m' i' k' n' h =
    let a = then_equal (statement_cmp m i k n m' i' k' n') Equal h in
    let b = then_equal (nat_cmp m m') _ a.0 in
    let d = then_equal (nat_cmp i i') _ b.1 in
    let e = then_equal (nat_cmp k k') _ d.1 in
    let f = then_equal (nat_cmp n n') _ e.1 in
    (number_equal m m' b.0, number_equal i i' d.0, number_equal k k' e.0, number_equal n n' f.0)

-- ---- texts

text_before : (texts : List (List ℕ)) (a b : ℕ) → a < length texts → b < length texts → slice_cmp nat_cmp (get_or texts a []) (get_or texts b []) ≡ Less → IsTextBefore texts a b
text_before texts a b p q h = (get_or texts a [], get_or texts b [], slice_get-get_or texts a [] p, slice_get-get_or texts b [] q, h)

text_same : (texts : List (List ℕ)) (a b : ℕ) → IsApart texts → a < length texts → b < length texts → slice_cmp nat_cmp (get_or texts a []) (get_or texts b []) ≡ Equal → a ≡ b
text_same texts a b apart p q h =
    let same : get_or texts a [] ≡ get_or texts b [] = slice_cmp-IsAntisymmetric nat_cmp-IsAntisymmetric _ _ h in
    apart a b (get_or texts a []) (slice_get-get_or texts a [] p) (slice_get-get_or texts b [] q ∙ ap Some (sym same))

-- ---- sites

-- what compares as less comes before
precedes : (p : LinkedProgram) (a b : Site) → IsSite p a → IsSite p b → site_cmp p a b ≡ Less → Precedes p a b
precedes p (New a) (New b) s t h = elim (statement_less a.method a.index 0 0 b.method b.index 0 0 h) [
  | inl x ↦ inl x
  | inr x ↦ elim x [ inl y ↦ inr y | inr y ↦ elim y.2 [ inl less ↦ absurd (omega (arith, less)) | inr which ↦ absurd (omega (arith, which)) ] ]
]
precedes p (New a) (Nested b level) s t h = elim (statement_less a.method a.index 0 0 b.method b.index 1 level h) [
  | inl x ↦ inl (inl x)
  | inr x ↦ elim x [ inl y ↦ inl (inr y) | inr y ↦ inr (y.0, y.1) ]
]
precedes p (New a) (Raised b kind) s t h = elim (statement_less a.method a.index 0 0 b.method b.index 2 kind h) [
  | inl x ↦ inl (inl x)
  | inr x ↦ elim x [ inl y ↦ inl (inr y) | inr y ↦ inr (y.0, y.1) ]
]
precedes p (Nested a level) (New b) s t h = elim (statement_less a.method a.index 1 level b.method b.index 0 0 h) [
  | inl x ↦ inl x
  | inr x ↦ elim x [ inl y ↦ inr y | inr y ↦ elim y.2 [ inl less ↦ absurd (omega (arith, less)) | inr which ↦ absurd (omega (arith, which)) ] ]
]
precedes p (Nested a level) (Nested b other) s t h = elim (statement_less a.method a.index 1 level b.method b.index 1 other h) [
  | inl x ↦ inl (inl x)
  | inr x ↦ elim x [ inl y ↦ inl (inr y) | inr y ↦ elim y.2 [ inl less ↦ absurd (omega (arith, less)) | inr which ↦ inr ((y.0, y.1), which.1) ] ]
]
precedes p (Nested a level) (Raised b kind) s t h = elim (statement_less a.method a.index 1 level b.method b.index 2 kind h) [
  | inl x ↦ inl (inl x)
  | inr x ↦ elim x [ inl y ↦ inl (inr y) | inr y ↦ inr (y.0, y.1) ]
]
precedes p (Raised a kind) (New b) s t h = elim (statement_less a.method a.index 2 kind b.method b.index 0 0 h) [
  | inl x ↦ inl x
  | inr x ↦ elim x [ inl y ↦ inr y | inr y ↦ elim y.2 [ inl less ↦ absurd (omega (arith, less)) | inr which ↦ absurd (omega (arith, which)) ] ]
]
precedes p (Raised a kind) (Nested b level) s t h = elim (statement_less a.method a.index 2 kind b.method b.index 1 level h) [
  | inl x ↦ inl x
  | inr x ↦ elim x [ inl y ↦ inr y | inr y ↦ elim y.2 [ inl less ↦ absurd (omega (arith, less)) | inr which ↦ absurd (omega (arith, which)) ] ]
]
precedes p (Raised a kind) (Raised b other) s t h = elim (statement_less a.method a.index 2 kind b.method b.index 2 other h) [
  | inl x ↦ inl (inl x)
  | inr x ↦ elim x [ inl y ↦ inl (inr y) | inr y ↦ elim y.2 [ inl less ↦ absurd (omega (arith, less)) | inr which ↦ inr ((y.0, y.1), which.1) ] ]
]
precedes p (New a) (Text b) s t h = tt
precedes p (New a) (Class b) s t h = tt
precedes p (Nested a level) (Text b) s t h = tt
precedes p (Nested a level) (Class b) s t h = tt
precedes p (Raised a kind) (Text b) s t h = tt
precedes p (Raised a kind) (Class b) s t h = tt
precedes p (Text a) (New b) s t h = cc
precedes p (Text a) (Nested b level) s t h = cc
precedes p (Text a) (Raised b kind) s t h = cc
precedes p (Text a) (Text b) s t h = text_before p.texts a b s t h
precedes p (Text a) (Class b) s t h = tt
precedes p (Class a) (New b) s t h = cc
precedes p (Class a) (Nested b level) s t h = cc
precedes p (Class a) (Raised b kind) s t h = cc
precedes p (Class a) (Text b) s t h = cc
precedes p (Class a) (Class b) s t h = text_before p.class_texts a b s t h

place_same : (a b : Place) → a.raised ≡ false → b.raised ≡ false → a.method ≡ b.method → a.index ≡ b.index → a ≡ b
place_same a b p q m i = let r : a.raised ≡ b.raised = p ∙ sym q in λ j. record { method = m j; index = i j; raised = r j }

-- what compares as equal is
same : (p : LinkedProgram) (a b : Site) → IsApart p.texts → IsApart p.class_texts → IsSite p a → IsSite p b → site_cmp p a b ≡ Equal → a ≡ b
same p (New a) (New b) texts classes s t h =
    let e = statement_equal a.method a.index 0 0 b.method b.index 0 0 h in
    ap New (place_same a b s.0 t.0 e.0 e.1)
same p (New a) (Nested b level) texts classes s t h =
    let e = statement_equal a.method a.index 0 0 b.method b.index 1 level h in
    absurd (omega (arith, e.2))
same p (New a) (Raised b kind) texts classes s t h =
    let e = statement_equal a.method a.index 0 0 b.method b.index 2 kind h in
    absurd (omega (arith, e.2))
same p (Nested a level) (New b) texts classes s t h =
    let e = statement_equal a.method a.index 1 level b.method b.index 0 0 h in
    absurd (omega (arith, e.2))
same p (Nested a level) (Nested b other) texts classes s t h =
    let e = statement_equal a.method a.index 1 level b.method b.index 1 other h in
    let at = place_same a b s.0 t.0 e.0 e.1 in
    λ j. Nested (at j) (e.3 j)
same p (Nested a level) (Raised b kind) texts classes s t h =
    let e = statement_equal a.method a.index 1 level b.method b.index 2 kind h in
    absurd (omega (arith, e.2))
same p (Raised a kind) (New b) texts classes s t h =
    let e = statement_equal a.method a.index 2 kind b.method b.index 0 0 h in
    absurd (omega (arith, e.2))
same p (Raised a kind) (Nested b level) texts classes s t h =
    let e = statement_equal a.method a.index 2 kind b.method b.index 1 level h in
    absurd (omega (arith, e.2))
same p (Raised a kind) (Raised b other) texts classes s t h =
    let e = statement_equal a.method a.index 2 kind b.method b.index 2 other h in
    let at = place_same a b s.0 t.0 e.0 e.1 in
    λ j. Raised (at j) (e.3 j)
same p (New a) (Text b) texts classes s t h = cc
same p (New a) (Class b) texts classes s t h = cc
same p (Nested a level) (Text b) texts classes s t h = cc
same p (Nested a level) (Class b) texts classes s t h = cc
same p (Raised a kind) (Text b) texts classes s t h = cc
same p (Raised a kind) (Class b) texts classes s t h = cc
same p (Text a) (New b) texts classes s t h = cc
same p (Text a) (Nested b level) texts classes s t h = cc
same p (Text a) (Raised b kind) texts classes s t h = cc
same p (Text a) (Text b) texts classes s t h = ap Text (text_same p.texts a b texts s t h)
same p (Text a) (Class b) texts classes s t h = cc
same p (Class a) (New b) texts classes s t h = cc
same p (Class a) (Nested b level) texts classes s t h = cc
same p (Class a) (Raised b kind) texts classes s t h = cc
same p (Class a) (Text b) texts classes s t h = cc
same p (Class a) (Class b) texts classes s t h = ap Class (text_same p.class_texts a b classes s t h)

-- it is an order
pub site_total : (p : LinkedProgram) → IsTotalOrder (site_cmp p)
site_total p = then_total (on_total numbers_of nat_list_cmp_total) (on_texts (text_of p))

-- sites that ascend and differ stand in their order
pub precedes_sorted : (p : LinkedProgram) (sites : List Site) → IsInForm p → ((i : ℕ) (d : Site) → i < length sites → IsSite p (get_or sites i d)) → AllPairs (λ x y. x ≢ y) sites
    → IsSortedBy (λ x y. is_lt (site_cmp p x y)) sites → AllPairs (Precedes p) sites
precedes_sorted p sites form are differ sorted i j d lt h =
    let far = sorted_far _ (ranks_by (site_total p) (λ (x : Site). x)) sites sorted i j d (omega arith) h in
    by (site_cmp p y x) refl far
  where
    x : Site
    x = get_or sites i d

    y : Site
    y = get_or sites j d

    by : (o : Ordering) → site_cmp p y x ≡ o → is_lt o ≡ false → Precedes p x y
    by Less e not = absurd (false≢true (sym not))
    by Equal e not =
        let equal : site_cmp p x y ≡ Equal = (site_total p).antisymm x y ∙ ap ordering_reverse e in
        absurd (differ i j d lt h (same p x y form.texts form.class_texts (are i d (omega arith)) (are j d h) equal))
    by Greater e not =
        let less : site_cmp p x y ≡ Less = (site_total p).antisymm x y ∙ ap ordering_reverse e in
        precedes p x y (are i d (omega arith)) (are j d h) less
