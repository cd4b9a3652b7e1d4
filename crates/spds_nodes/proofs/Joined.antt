-- Lists that elements are added to, part by part.
use Rattle.std.proofs.Common.{◌≡◌, ℕ, zero, suc, ◌+◌, ◌<◌, ◌≤◌, ◌↔◌, ◌⊎◌, List, [], ◌∷◌, ◌++◌, Some, get_or, length, slice_get, take, refl, sym, ap, subst, ◌∙◌, inl, inr, arith, append_assoc, append-nil}
use Rattle.std.proofs.lemmas.List.{take_all}
use Rattle.std.proofs.lemmas.Bool.{cases_order}
use Rattle.std.proofs.lemmas.Option.{get_or_from_slice_get, same_Some}
use Rattle.std.specs.List.{AllPairs, Contains}
use Rattle.lists.specs.Lists.{Has, IsApart, AreAll}
use Rattle.lists.proofs.Places.{slice_get-append_left, slice_get-below, Has-push, slice_get-read, take-next}
use Rattle.lists.proofs.Joined.{slice_get-append_right, slice_get-appended}
use Rattle.spds_nodes.specs.Added.{IsAdded, Over}

module _ {X : Type 0} where
  -- the list of no element
  pub AreAll-none : (P : X → Type 0) → ((x : X) → P x → ⊥) → AreAll P []
  AreAll-none P none = record {
    each = λ x has. absurd (cc (has.1));
    all = λ x fact. absurd (none x fact);
    apart = λ i j x p q. absurd (cc (p));
  }

  -- the list of one
  pub AreAll-one : (P : X → Type 0) (x : X) → P x → ((y : X) → P y → y ≡ x) → AreAll P (x ∷ [])
  AreAll-one P x fact only = record {
    each = λ y has. subst P (sym (first has.0 y has.1).1) fact;
    all = λ y other. (0, ap Some (sym (only y other)));
    apart = λ i j y p q. (first i y p).0 ∙ sym (first j y q).0;
  }
    where
      first : (i : ℕ) (y : X) → slice_get (x ∷ []) i ≡ Some y → (i ≡ 0) × (y ≡ x)
      first zero y there = (refl, sym (same_Some x y there))
      first (suc i) y there = absurd (cc (there))

  -- two lists, with facts that exclude each other
  pub AreAll-join : (P Q : X → Type 0) (xs ys : List X) → ((x : X) → P x → Q x → ⊥) → AreAll P xs → AreAll Q ys → AreAll (λ x. P x ⊎ Q x) (xs ++ ys)
  AreAll-join P Q xs ys apart ps qs = record {
    each = λ x has. elim (slice_get-appended xs ys has.0 x has.1) [ inl a ↦ inl (ps.each x (has.0, a)) | inr b ↦ inr (qs.each x (b.0, b.2)) ];
    all = λ x either. elim either [
      | inl p ↦ let there = ps.all x p in (there.0, slice_get-append_left xs ys there.0 x there.1)
      | inr q ↦ let there = qs.all x q in (length xs + there.0, slice_get-append_right xs ys there.0 ∙ there.1)
    ];
    apart = λ i j x a b. elim (slice_get-appended xs ys i x a) [
      | inl p ↦ elim (slice_get-appended xs ys j x b) [
        | inl q ↦ ps.apart i j x p q
        | inr q ↦ absurd (apart x (ps.each x (i, p)) (qs.each x (q.0, q.2)))
      ]
      | inr p ↦ elim (slice_get-appended xs ys j x b) [
        | inl q ↦ absurd (apart x (ps.each x (j, q)) (qs.each x (p.0, p.2)))
        | inr q ↦ p.1 ∙ ap (λ k. length xs + k) (qs.apart p.0 q.0 x p.2 q.2) ∙ sym q.1
      ]
    ];
  }

  -- the same list, for a fact that says the same
  pub AreAll-same : (P Q : X → Type 0) (xs : List X) → ((x : X) → P x ↔ Q x) → AreAll P xs → AreAll Q xs
  AreAll-same P Q xs same all = record { each = λ x has. (same x).0 (all.each x has); all = λ x fact. all.all x ((same x).1 fact); apart = all.apart }

  -- nothing is added
  pub IsAdded-none : (P : X → Type 0) (xs : List X) → ((x : X) → P x → ⊥) → IsAdded P xs xs
  IsAdded-none P xs none = record { added = []; all = AreAll-none P none; is = sym (append-nil xs) }

  -- one element is added
  pub IsAdded-one : (P : X → Type 0) (old new : List X) (x : X) → new ≡ old ++ x ∷ [] → P x → ((y : X) → P y → y ≡ x) → IsAdded P old new
  IsAdded-one P old new x pushed fact only = record { added = x ∷ []; all = AreAll-one P x fact only; is = pushed }

  -- first some, then others
  pub IsAdded-then : (P Q : X → Type 0) (old mid new : List X) → ((x : X) → P x → Q x → ⊥) → IsAdded P old mid → IsAdded Q mid new → IsAdded (λ x. P x ⊎ Q x) old new
  IsAdded-then P Q old mid new apart first second = record {
    added = first.added ++ second.added;
    all = AreAll-join P Q first.added second.added apart first.all second.all;
    is = second.is ∙ ap (λ xs. xs ++ second.added) first.is ∙ append_assoc old first.added second.added;
  }

  -- the same, for a fact that says the same
  pub IsAdded-same : (P Q : X → Type 0) (old new : List X) → ((x : X) → P x ↔ Q x) → IsAdded P old new → IsAdded Q old new
  IsAdded-same P Q old new same added = record { added = added.added; all = AreAll-same P Q added.added same added.all; is = added.is }

  -- all that is added to no element
  pub AreAll-added : (P : X → Type 0) (old new : List X) → old ≡ [] → IsAdded P old new → AreAll P new
  AreAll-added P old new empty added = subst (AreAll P) (sym (added.is ∙ ap (λ xs. xs ++ added.added) empty)) added.all

module _ {A : Type 0} where
  -- an element, by indexing with a default
  pub Has-from_Contains : (xs : List A) (x : A) → Contains xs x → Has xs x
  Has-from_Contains xs x has = (has.0, slice_get-read xs has.0 x has.1 (sym has.2))

  pub Contains-from_Has : (xs : List A) (x : A) → Has xs x → Contains xs x
  Contains-from_Has xs x has = (has.0, slice_get-below xs has.0 x has.1, get_or_from_slice_get xs has.0 x x has.1)

  -- what stands in the front of a list
  pub slice_get-taken : (xs : List A) (n i : ℕ) (x : A) → slice_get (take n xs) i ≡ Some x → (i < n) × (slice_get xs i ≡ Some x)
  slice_get-taken [] zero i x there = absurd (cc (there))
  slice_get-taken [] (suc n) i x there = absurd (cc (there))
  slice_get-taken (y ∷ xs) zero i x there = absurd (cc (there))
  slice_get-taken (y ∷ xs) (suc n) zero x there = (omega arith, there)
  slice_get-taken (y ∷ xs) (suc n) (suc i) x there = let rest = slice_get-taken xs n i x there in (omega (arith, rest.0), rest.1)

  -- elements in an order that no element has to itself stand apart
  pub IsApart-ordered : (R : A → A → Type 0) (xs : List A) → ((x : A) → R x x → ⊥) → AllPairs R xs → IsApart xs
  IsApart-ordered R xs strict ordered i j x p q = elim (cases_order i j) [
    | inl same ↦ same
    | inr other ↦ elim other [ inl less ↦ absurd (strict x (pair i j less p q)) | inr more ↦ absurd (strict x (pair j i more q p)) ]
  ]
    where
      pair : (a b : ℕ) → a < b → slice_get xs a ≡ Some x → slice_get xs b ≡ Some x → R x x
      pair a b before here there =
          subst (λ y. R y x) (get_or_from_slice_get xs a x x here)
          (subst (λ y. R (get_or xs a x) y) (get_or_from_slice_get xs b x x there) (ordered a b x before (slice_get-below xs b x there)))

-- what things give, one thing after the other
module _ {A X : Type 0} (xs : List A) (Gives : A → X → Type 0) where
  -- those before the first
  pub Over-begin : (old : List X) → IsAdded (Over (Has (take 0 xs)) Gives) old old
  Over-begin old = IsAdded-none (Over (Has (take 0 xs)) Gives) old (λ x over. none over.0 over.1)
    where
      none : (a : A) → Has (take 0 xs) a → ⊥
      none a has = cc (has.1)

  -- one more
  pub Over-next : (old mid new : List X) (i : ℕ) (a : A) → slice_get xs i ≡ Some a → IsApart xs → ((a b : A) (x : X) → Gives a x → Gives b x → a ≡ b)
      → IsAdded (Over (Has (take i xs)) Gives) old mid → IsAdded (Gives a) mid new → IsAdded (Over (Has (take (i + 1) xs)) Gives) old new
  Over-next old mid new i a there apart one before here =
      IsAdded-same (λ x. Over (Has (take i xs)) Gives x ⊎ Gives a x) (Over (Has (take (i + 1) xs)) Gives) old new
      (λ x. (
        (λ either. elim either [
          | inl over ↦ (over.0, has_more over.0 (inl over.1), over.2)
          | inr gives ↦ (a, has_more a (inr refl), gives)
        ]),
        (λ over. elim (has_less over.0 over.1) [
          | inl has ↦ inl (over.0, has, over.2)
          | inr is ↦ inr (subst (λ b. Gives b x) is over.2)
        ]),
      ))
      (IsAdded-then (Over (Has (take i xs)) Gives) (Gives a) old mid new
      (λ x over gives. not_before (subst (Has (take i xs)) (one over.0 a x over.2 gives) over.1)) before here)
    where
      has_more : (b : A) → Has (take i xs) b ⊎ (b ≡ a) → Has (take (i + 1) xs) b
      has_more b either = rw (take-next xs i a there) ((Has-push (take i xs) a b).1 either)

      has_less : (b : A) → Has (take (i + 1) xs) b → Has (take i xs) b ⊎ (b ≡ a)
      has_less b has = (Has-push (take i xs) a b).0 (rw (take-next xs i a there) at has)

      not_before : Has (take i xs) a → ⊥
      not_before has =
          let taken = slice_get-taken xs i has.0 a has.1 in
          omega (arith, apart has.0 i a taken.1 there, taken.0)

  -- those up to the last
  pub Over-end : (Q : A → Type 0) (old new : List X) (i : ℕ) → length xs ≤ i → ((a : A) → Has xs a ↔ Q a)
      → IsAdded (Over (Has (take i xs)) Gives) old new → IsAdded (Over Q Gives) old new
  Over-end Q old new i behind exact added =
      let all = take_all i xs behind in
      IsAdded-same (Over (Has xs) Gives) (Over Q Gives) old new
      (λ x. ((λ over. (over.0, (exact over.0).0 over.1, over.2)), (λ over. (over.0, (exact over.0).1 over.1, over.2))))
      (subst (λ ys. IsAdded (Over (Has ys) Gives) old new) all added)

module _ {X : Type 0} (H : Type 0) (P : X → Type 0) where
  -- under a condition that is met
  pub IsAdded-with : (old new : List X) → H → IsAdded P old new → IsAdded (λ x. H × P x) old new
  IsAdded-with old new met added = IsAdded-same P (λ x. H × P x) old new (λ x. ((λ fact. (met, fact)), (λ both. both.1))) added

  -- under a condition that isn't
  pub IsAdded-without : (old : List X) → (H → ⊥) → IsAdded (λ x. H × P x) old old
  IsAdded-without old not = IsAdded-none (λ x. H × P x) old (λ x both. not both.0)
