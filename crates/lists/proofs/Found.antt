-- What stands under a key, before and after an element came.
use Rattle.std.proofs.Common.{◌≡◌, ◌≢◌, ◌⊎◌, ◌↔◌, inl, inr, ◌∙◌, ℕ, zero, suc, ◌<◌, List, [], ◌∷◌, ◌++◌, length, slice_get, Some, Bool, true, cond, refl, sym, ap, subst, arith, length-append, length-set}
use Rattle.std.specs.Cmp.{IsEquivalence}
use Rattle.std.specs.List.{slice_set}
use Rattle.lists.specs.Filings.{row}
use Rattle.lists.specs.Groups.{Grouped, IsAdded, IsGrouped, found_at, found_in}
use Rattle.lists.specs.Lists.{Has, IsApart}
use Rattle.lists.proofs.Joined.{row-last, row-left}
use Rattle.lists.proofs.OneKey.{one_key}
use Rattle.lists.proofs.Places.{Has-push, IsApart-push, slice_get-below, slice_get-push}

module _ {X : Type 0} where
  row-set_same : (ls : List (List X)) (i : ℕ) (l : List X) → i < length ls → row (slice_set ls i l) i ≡ l
  row-set_same [] i l h = absurd (omega arith)
  row-set_same (x ∷ ls) zero l h = refl
  row-set_same (x ∷ ls) (suc i) l h = row-set_same ls i l (omega arith)

  row-set_other : (ls : List (List X)) (i : ℕ) (l : List X) (j : ℕ) → j ≢ i → row (slice_set ls i l) j ≡ row ls j
  row-set_other [] i l j n = refl
  row-set_other (x ∷ ls) zero l zero n = absurd (n refl)
  row-set_other (x ∷ ls) zero l (suc j) n = refl
  row-set_other (x ∷ ls) (suc i) l zero n = refl
  row-set_other (x ∷ ls) (suc i) l (suc j) n = row-set_other ls i l j (λ e. n (ap suc e))

module _ {K X : Type 0} (eq : K → K → Bool) (laws : IsEquivalence eq) (same : (x y : K) → eq x y ≡ true → x ≡ y) where
  -- the list at the numbers of the key alone counts
  found-same : (ks : List K) (at to : ℕ → List X) (key : K) → ((i : ℕ) → slice_get ks i ≡ Some key → at i ≡ to i) → found_in eq ks at key ≡ found_in eq ks to key
  found-same [] at to key h = refl
  found-same (k ∷ ks) at to key h = elim (one_key eq laws.refl same k key) [
    | inl s ↦ ap (λ (t : Bool). cond t (at 0) (found_in eq ks (λ i. at (suc i)) key)) s.1 ∙ h 0 (ap Some s.0) ∙ sym (ap (λ (t : Bool). cond t (to 0) (found_in eq ks (λ i. to (suc i)) key)) s.1)
    | inr s ↦ ap (λ (t : Bool). cond t (at 0) (found_in eq ks (λ i. at (suc i)) key)) s.1
        ∙ found-same ks (λ i. at (suc i)) (λ i. to (suc i)) key (λ i g. h (suc i) g)
        ∙ sym (ap (λ (t : Bool). cond t (to 0) (found_in eq ks (λ i. to (suc i)) key)) s.1)
  ]

  -- of a key with a number
  pub found-there : (ks : List K) (at : ℕ → List X) (key : K) (i : ℕ) → IsApart ks → slice_get ks i ≡ Some key → found_in eq ks at key ≡ at i
  found-there [] at key i apart h = cc
  found-there (k ∷ ks) at key zero apart h = let e : k ≡ key = cc in ap (λ (t : Bool). cond t (at 0) (found_in eq ks (λ i. at (suc i)) key)) (ap (λ (z : K). eq z key) e ∙ laws.refl key)
  found-there (k ∷ ks) at key (suc i) apart h = elim (one_key eq laws.refl same k key) [
    | inl s ↦ let n : 0 ≡ suc i = apart 0 (suc i) key (ap Some s.0) h in absurd (omega (arith, n))
    | inr s ↦ ap (λ (t : Bool). cond t (at 0) (found_in eq ks (λ i. at (suc i)) key)) s.1
        ∙ found-there ks (λ i. at (suc i)) key i (λ a b x g f. let n : suc a ≡ suc b = apart (suc a) (suc b) x g f in omega (arith, n)) h
  ]

  -- of a key without one
  pub found-none : (ks : List K) (at : ℕ → List X) (key : K) → (Has ks key → ⊥) → found_in eq ks at key ≡ []
  found-none [] at key miss = refl
  found-none (k ∷ ks) at key miss = elim (one_key eq laws.refl same k key) [
    | inl s ↦ absurd (miss (0, ap Some s.0))
    | inr s ↦ ap (λ (t : Bool). cond t (at 0) (found_in eq ks (λ i. at (suc i)) key)) s.1 ∙ found-none ks (λ i. at (suc i)) key (λ h. miss (suc h.0, h.1))
  ]

  -- another key comes in
  found-other : (ks : List K) (k : K) (at : ℕ → List X) (key : K) → key ≢ k → found_in eq (ks ++ k ∷ []) at key ≡ found_in eq ks at key
  found-other [] k at key n = elim (one_key eq laws.refl same k key) [
    | inl s ↦ absurd (n (sym s.0))
    | inr s ↦ ap (λ (t : Bool). cond t (at 0) []) s.1
  ]
  found-other (x ∷ ks) k at key n = ap (λ (r : List X). cond (eq x key) (at 0) r) (found-other ks k (λ i. at (suc i)) key n)

  -- the element is one more of its key, and no other key has it more
  pub Has-added : (old new : Grouped K X) (key : K) (x : X) → IsAdded eq old new key x → (k : K) (y : X) → Has (found_at eq new k) y ↔ (Has (found_at eq old k) y ⊎ ((k ≡ key) × (y ≡ x)))
  Has-added old new key x added k y = elim (one_key eq laws.refl same k key) [
    | inl s ↦
        let before = found_at eq old key in
        let is : found_at eq new k ≡ before ++ x ∷ [] = ap (λ (z : K). found_at eq new z) s.0 ∙ added.here in
        let was : before ≡ found_at eq old k = ap (λ (z : K). found_at eq old z) (sym s.0) in (
          (λ h. elim ((Has-push before x y).0 (subst (λ (l : List X). Has l y) is h)) [
            | inl first ↦ inl (subst (λ (l : List X). Has l y) was first)
            | inr e ↦ inr (s.0, e)
          ]),
          (λ h. subst (λ (l : List X). Has l y) (sym is) ((Has-push before x y).1 (elim h [
            | inl first ↦ inl (subst (λ (l : List X). Has l y) (sym was) first)
            | inr e ↦ inr e.1
          ]))),
        )
    | inr s ↦
        let is = added.others k s.0 in (
          (λ h. inl (subst (λ (l : List X). Has l y) is h)),
          (λ h. elim h [
            | inl before ↦ subst (λ (l : List X). Has l y) (sym is) before
            | inr e ↦ absurd (s.0 e.0)
          ]),
        )
  ]

  abbrev pub groups_by : List K → List (List X) → Grouped K X
  groups_by ks ls = record { keys = ks; lists = ls }

  module _ (ks : List K) (ls : List (List X)) (g : IsGrouped (groups_by ks ls)) (key : K) (x : X) where
    -- the element comes into the group of its key
    module _ (i : ℕ) (at : slice_get ks i ≡ Some key) where
      pub group_there : i < length ls
      group_there = let low : i < length ks = slice_get-below ks i key at in let many = g.as_many in omega arith

      abbrev pub longer : List (List X)
      longer = slice_set ls i (row ls i ++ x ∷ [])

      pub grouped_in : IsGrouped (groups_by ks longer)
      grouped_in = record { as_many = length-set ls i (row ls i ++ x ∷ []) ∙ g.as_many; apart = g.apart }

      pub added_in : IsAdded eq (groups_by ks ls) (groups_by ks longer) key x
      added_in = record {
        here = found-there ks (row longer) key i g.apart at ∙ row-set_same ls i (row ls i ++ x ∷ []) group_there ∙ ap (λ (l : List X). l ++ x ∷ []) (sym (found-there ks (row ls) key i g.apart at));
        others = λ k n. found-same ks (row longer) (row ls) k (λ j h. row-set_other ls i (row ls i ++ x ∷ []) j (λ e. n (let p : Some k ≡ Some key = sym h ∙ ap (slice_get ks) e ∙ at in cc)));
      }

    -- the element is the first of its key
    module _ (new : Has ks key → ⊥) where
      pub grouped_new : IsGrouped (groups_by (ks ++ key ∷ []) (ls ++ (x ∷ []) ∷ []))
      grouped_new = record { as_many = omega (arith, g.as_many, length-append ls ((x ∷ []) ∷ []), length-append ks (key ∷ [])); apart = IsApart-push ks key g.apart new }

      pub added_new : IsAdded eq (groups_by ks ls) (groups_by (ks ++ key ∷ []) (ls ++ (x ∷ []) ∷ [])) key x
      added_new = record {
        here = found-there (ks ++ key ∷ []) (row (ls ++ (x ∷ []) ∷ [])) key (length ks) (IsApart-push ks key g.apart new) (slice_get-push ks key) ∙ row-last ls (x ∷ []) (length ks) g.as_many
            ∙ ap (λ (l : List X). l ++ x ∷ []) (sym (found-none ks (row ls) key new));
        others = λ k n. found-other ks key (row (ls ++ (x ∷ []) ∷ [])) k n
            ∙ found-same ks (row (ls ++ (x ∷ []) ∷ [])) (row ls) k (λ j h. row-left ls (x ∷ []) j (omega (arith, slice_get-below ks j k h, g.as_many)));
      }

pub grouped_none : {K X : Type 0} (ks : List K) (ls : List (List X)) → ks ≡ [] → ls ≡ [] → IsGrouped {K = K} {X = X} (record { keys = ks; lists = ls })
grouped_none ks ls e f = record { as_many = ap length f ∙ sym (ap length e); apart = λ i j x h k. let p : slice_get [] i ≡ Some x = subst (λ ys. slice_get ys i ≡ Some x) e h in cc }

pub reads_none : {K X : Type 0} (eq : K → K → Bool) (ks : List K) (ls : List (List X)) → ks ≡ [] → (key : K) → found_in eq ks (row ls) key ≡ []
reads_none eq ks ls e key = ap (λ ys. found_in eq ys (row ls) key) e
