-- Items by key, through the numbers of their keys.
use Rattle.std.proofs.Common.{◌≡◌, ◌≢◌, ℕ, zero, suc, ◌<◌, Bool, true, cond, List, [], ◌∷◌, ◌++◌, Some, length, slice_get, refl, sym, ap, ◌∙◌, subst, inl, inr, arith, length-append}
use Rattle.std.specs.Cmp.{IsEquivalence}
use Rattle.std.proofs.lemmas.Bool.{cases_eq}
use Rattle.lists.specs.declared.filing.Pair.{Pair}
use Rattle.lists.specs.declared.groups.Keyed.{Keyed}
use Rattle.lists.specs.Filings.{items_under, kept_if}
use Rattle.lists.specs.Groups.{found_in, IsNumberedAll, items_with}
use Rattle.lists.specs.Lists.{Adds, Has}
use Rattle.lists.proofs.Places.{IsApart-push, slice_get-append_left, slice_get-below, slice_get-push, slice_get-pushed}
use Rattle.lists.proofs.Tallied.{items_under-push_first, items_under-push_other, items_under-push_same, kept_if-append}
use Rattle.lists.proofs.OneKey.{one_key}

append-nil : {X : Type 0} (xs : List X) → xs ++ [] ≡ xs
append-nil [] = refl
append-nil (x ∷ xs) = ap (λ r. x ∷ r) (append-nil xs)

-- nothing stands under a number that no key has
none_under : {X : Type 0} (ps : List (Pair X)) (n : ℕ) → ((i : ℕ) (q : Pair X) → slice_get ps i ≡ Some q → q.number < n) → items_under ps n ≡ []
none_under [] n below = refl
none_under (q ∷ ps) n below =
    let low : q.number < n = below 0 q refl in
    items_under-push_first q ps n (λ e. absurd (omega (arith, e, low))) ∙ none_under ps n (λ i r at. below (suc i) r at)

module _ {K X : Type 0} (eq : K → K → Bool) (laws : IsEquivalence eq) (same : (x y : K) → eq x y ≡ true → x ≡ y) where
  -- what is found under a key is what all its numbers lead to, and nothing where it has none
  pub found_in-exact : (keys : List K) (lists : ℕ → List X) (key : K) (xs : List X) → ((i : ℕ) → slice_get keys i ≡ Some key → lists i ≡ xs) → ((Has keys key → ⊥) → [] ≡ xs)
      → found_in eq keys lists key ≡ xs
  found_in-exact [] lists key xs there none = none (λ has. let e = has.1 in cc)
  found_in-exact (k ∷ ks) lists key xs there none = elim (one_key eq laws.refl same k key) [
    | inl e ↦ ap (λ t. cond t (lists 0) (found_in eq ks (λ i. lists (suc i)) key)) e.1 ∙ there 0 (ap Some e.0)
    | inr n ↦ ap (λ t. cond t (lists 0) (found_in eq ks (λ i. lists (suc i)) key)) n.1
        ∙ found_in-exact ks (λ i. lists (suc i)) key xs (λ i at. there (suc i) at) (λ missing. none (λ has. further n.0 missing has.0 has.1))
  ]
    where
      further : k ≢ key → (Has ks key → ⊥) → (i : ℕ) → slice_get (k ∷ ks) i ≡ Some key → ⊥
      further ne missing zero at = ne (let e : Some k ≡ Some key = at in cc)
      further ne missing (suc i) at = missing (i, at)

  -- the items with a key of two lists, one behind the other
  items_with-append : (ps qs : List (Keyed K X)) (key : K) → items_with eq (ps ++ qs) key ≡ items_with eq ps key ++ items_with eq qs key
  items_with-append [] qs key = refl
  items_with-append (p ∷ ps) qs key =
      ap (kept_if (eq p.key key) p.item) (items_with-append ps qs key) ∙ kept_if-append (eq p.key key) p.item (items_with eq ps key) (items_with eq qs key)

  module _ (items : List (Keyed K X)) (keys : List K) (pairs : List (Pair X)) (all : IsNumberedAll eq items keys pairs) (p : Keyed K X) (number : ℕ) where
    abbrev pub pair : Pair X
    pair = record { number = number; item = p.item }

    -- one more item of this key, or of another one
    with_same : (key : K) → p.key ≡ key → items_with eq (items ++ p ∷ []) key ≡ items_with eq items key ++ p.item ∷ []
    with_same key e = items_with-append items (p ∷ []) key ∙ ap (λ t. items_with eq items key ++ kept_if t p.item []) (ap (λ k. eq k key) e ∙ laws.refl key)

    with_other : (key : K) → p.key ≢ key → items_with eq (items ++ p ∷ []) key ≡ items_with eq items key
    with_other key ne = elim (one_key eq laws.refl same p.key key) [
      | inl e ↦ absurd (ne e.0)
      | inr n ↦ items_with-append items (p ∷ []) key ∙ ap (λ t. items_with eq items key ++ kept_if t p.item []) n.1 ∙ append-nil (items_with eq items key)
    ]

    -- the key had a number before
    IsNumberedAll-old : slice_get keys number ≡ Some p.key → IsNumberedAll eq (items ++ p ∷ []) keys (pairs ++ record { number = number; item = p.item } ∷ [])
    IsNumberedAll-old at = record {
      apart = all.apart;
      below = λ i q there. elim (slice_get-pushed pairs pair i q there) [
        | inl old ↦ all.below i q old
        | inr new ↦ subst (λ (r : Pair X). r.number < length keys) (sym new.1) (slice_get-below keys number p.key at)
      ];
      there = λ i key here. elim (cases_eq i number) [
        | inl e ↦
            let is : p.key ≡ key = let there : slice_get keys number ≡ Some key = subst (λ n. slice_get keys n ≡ Some key) e here in cc in
            ap (items_under (pairs ++ pair ∷ [])) e ∙ items_under-push_same pairs pair number refl ∙ ap (λ xs. xs ++ p.item ∷ []) (all.there number key (subst (λ n. slice_get keys n ≡ Some key) e here)) ∙ sym (with_same key is)
        | inr ne ↦
            let other : p.key ≢ key = λ e. ne (all.apart i number p.key (here ∙ ap Some (sym e)) at) in
            items_under-push_other pairs pair i (λ e. ne (sym e)) ∙ all.there i key here ∙ sym (with_other key other)
      ];
      none = λ key missing. with_other key (λ e. missing (number, at ∙ ap Some e)) ∙ all.none key missing;
    }

    -- the key has the next number now
    IsNumberedAll-new : number ≡ length keys → (Has keys p.key → ⊥) → IsNumberedAll eq (items ++ p ∷ []) (keys ++ p.key ∷ []) (pairs ++ record { number = number; item = p.item } ∷ [])
    IsNumberedAll-new last new = record {
      apart = IsApart-push keys p.key all.apart new;
      below = λ i q there. elim (slice_get-pushed pairs pair i q there) [
        | inl old ↦ omega (arith, all.below i q old, length-append keys (p.key ∷ []))
        | inr e ↦ subst (λ (r : Pair X). r.number < length (keys ++ p.key ∷ [])) (sym e.1) (omega (arith, last, length-append keys (p.key ∷ [])))
      ];
      there = λ i key here. elim (slice_get-pushed keys p.key i key here) [
        | inl old ↦
            let low = slice_get-below keys i key old in
            let other : p.key ≢ key = λ e. new (i, old ∙ ap Some (sym e)) in
            items_under-push_other pairs pair i (λ e. absurd (omega (arith, low, last, e))) ∙ all.there i key old ∙ sym (with_other key other)
        | inr e ↦
            ap (items_under (pairs ++ pair ∷ [])) (e.0 ∙ sym last) ∙ items_under-push_same pairs pair number refl
            ∙ ap (λ xs. xs ++ p.item ∷ []) (none_under pairs number (λ j q at. omega (arith, all.below j q at, last)) ∙ sym (all.none p.key new)) ∙ sym (with_same p.key refl)
            ∙ ap (items_with eq (items ++ p ∷ [])) (sym e.1)
      ];
      none = λ key missing.
          with_other key (λ e. missing (length keys, slice_get-push keys p.key ∙ ap Some e)) ∙ all.none key (λ has. missing (has.0, slice_get-append_left keys (p.key ∷ []) has.0 key has.1));
    }

    -- one item more, whose key is there or was added
    pub IsNumberedAll-adds : (more : List K) → slice_get more number ≡ Some p.key → Adds keys p.key more → IsNumberedAll eq (items ++ p ∷ []) more (pairs ++ record { number = number; item = p.item } ∷ [])
    IsNumberedAll-adds more at adds = elim adds [
      | inl old ↦ rw old.1 (IsNumberedAll-old (subst (λ ks. slice_get ks number ≡ Some p.key) old.1 at))
      | inr new ↦ rw new.1 (IsNumberedAll-new (last new.0 (subst (λ ks. slice_get ks number ≡ Some p.key) new.1 at)) new.0)
    ]
      where
        last : (Has keys p.key → ⊥) → slice_get (keys ++ p.key ∷ []) number ≡ Some p.key → number ≡ length keys
        last missing there = elim (slice_get-pushed keys p.key number p.key there) [ inl a ↦ absurd (missing (number, a)) | inr b ↦ b.0 ]
