-- The first member with a key, as members come behind others.
use Rattle.std.proofs.Common.{◌≡◌, ℕ, ◌<◌, ◌⊎◌, ◌++◌, List, [], ◌∷◌, Option, Some, None, Bool, true, false, cond, length, slice_get, refl, sym, ap, subst, ◌∙◌, inl, inr, arith, true≢false}
use Rattle.lists.specs.Lists.{IsLeast}
use Rattle.lists.proofs.Places.{slice_get-append_left, slice_get-below, slice_get-push, slice_get-pushed, slice_get-there}
use Rattle.link_classes.specs.Tables.{IsFirst}

-- a number more may have the fact
module _ (P Q : ℕ → Type 0) (last : ℕ) (keeps : (n : ℕ) → P n → Q n) (splits : (n : ℕ) → Q n → P n ⊎ (n ≡ last)) (below : (n : ℕ) → P n → n < last) where
  pub least_kept : (n : ℕ) → IsLeast P n → IsLeast Q n
  least_kept n p = record {
    holds = keeps n p.holds;
    first = λ m before h. elim (splits m h) [ inl q ↦ p.first m before q | inr e ↦ omega (arith, e, below n p.holds) ];
  }

  -- the last number hasn't the fact
  pub other_first : (o : Option ℕ) → (Q last → ⊥) → IsFirst P o → IsFirst Q o
  other_first (Some n) other p = least_kept n p
  other_first None other p = λ n h. elim (splits n h) [ inl q ↦ p n q | inr e ↦ other (subst Q e h) ]

  -- an earlier number has the fact
  pub earlier_first : (o : Option ℕ) (m : ℕ) → P m → IsFirst P o → IsFirst Q o
  earlier_first (Some n) m h p = least_kept n p
  earlier_first None m h p = absurd (p m h)

  -- the last number is the first that has it
  pub last_first : Q last → ((n : ℕ) → P n → ⊥) → IsLeast Q last
  last_first h none = record { holds = h; first = λ m before q. elim (splits m q) [ inl p ↦ none m p | inr e ↦ omega (arith, e) ] }

module _ {D K : Type 0} (key : D → K) (HasKey : List D → K → ℕ → Type 0)
    (opens : (xs : List D) (k : K) (n : ℕ) → HasKey xs k n → (x : D) × (slice_get xs n ≡ Some x) × (key x ≡ k))
    (makes : (xs : List D) (k : K) (n : ℕ) (x : D) → slice_get xs n ≡ Some x → key x ≡ k → HasKey xs k n) where
  keeps : (xs ys : List D) (k : K) (n : ℕ) → HasKey xs k n → HasKey (xs ++ ys) k n
  keeps xs ys k n h = let o = opens xs k n h in makes (xs ++ ys) k n o.0 (slice_get-append_left xs ys n o.0 o.1) o.2

  splits : (xs : List D) (x : D) (k : K) (n : ℕ) → HasKey (xs ++ x ∷ []) k n → HasKey xs k n ⊎ (n ≡ length xs)
  splits xs x k n h =
      let o = opens (xs ++ x ∷ []) k n h in
      elim (slice_get-pushed xs x n o.0 o.1) [ inl p ↦ inl (makes xs k n o.0 p o.2) | inr p ↦ inr p.0 ]

  below : (xs : List D) (k : K) (n : ℕ) → HasKey xs k n → n < length xs
  below xs k n h = let o = opens xs k n h in slice_get-below xs n o.0 o.1

  last_has : (xs : List D) (x : D) (k : K) → HasKey (xs ++ x ∷ []) k (length xs) → key x ≡ k
  last_has xs x k h =
      let o = opens (xs ++ x ∷ []) k (length xs) h in
      let same : o.0 ≡ x = cc (o.1, slice_get-push xs x) in
      ap key (sym same) ∙ o.2

  -- the first member with a key among the first ones is the first of all
  pub least_of_front : (xs ys : List D) (k : K) (n : ℕ) → IsLeast (HasKey xs k) n → IsLeast (HasKey (xs ++ ys) k) n
  least_of_front xs ys k n p = record {
    holds = keeps xs ys k n p.holds;
    first = λ m before h.
        let o = opens (xs ++ ys) k m h in
        let there = slice_get-there xs m (omega (arith, before, below xs k n p.holds)) in
        let same : there.0 ≡ o.0 = cc (slice_get-append_left xs ys m there.0 there.1, o.1) in
        p.first m before (makes xs k m o.0 (subst (λ z. slice_get xs m ≡ Some z) same there.1) o.2);
  }

  module _ {X : Type 0} (Within : X → Type 0) (meant : X → K) (eq : X → X → Bool) (same : (k q : X) → eq k q ≡ true → meant k ≡ meant q)
      (told : (k q : X) → Within k → Within q → meant k ≡ meant q → eq k q ≡ true) where
    -- a member comes whose key an earlier one has
    pub with_known_key : (xs : List D) (x : D) (find : X → Option ℕ) (k : X) (n : ℕ) → ((q : X) → Within q → IsFirst (HasKey xs (meant q)) (find q))
        → Within k → meant k ≡ key x → find k ≡ Some n
        → ((q : X) → Within q → IsFirst (HasKey (xs ++ x ∷ []) (meant q)) (find q)) × IsLeast (HasKey (xs ++ x ∷ []) (key x)) n
    with_known_key xs x find k n knows within is found =
        (λ q w. by q w (eq k q) refl, subst (λ z. IsLeast (HasKey (xs ++ x ∷ []) z) n) is (least_kept _ _ (length xs) (keeps xs (x ∷ []) (meant k)) (splits xs x (meant k)) (below xs (meant k)) n least))
      where
        least : IsLeast (HasKey xs (meant k)) n
        least = subst (IsFirst (HasKey xs (meant k))) found (knows k within)

        by : (q : X) → Within q → (b : Bool) → eq k q ≡ b → IsFirst (HasKey (xs ++ x ∷ []) (meant q)) (find q)
        by q w true e = earlier_first _ _ (length xs) (keeps xs (x ∷ []) (meant q)) (splits xs x (meant q)) (below xs (meant q)) (find q) n
            (subst (λ z. HasKey xs z n) (same k q e) least.holds) (knows q w)
        by q w false e = other_first _ _ (length xs) (keeps xs (x ∷ []) (meant q)) (splits xs x (meant q)) (below xs (meant q)) (find q)
            (λ h. true≢false (sym (told k q within w (is ∙ last_has xs x (meant q) h)) ∙ e)) (knows q w)

    -- a member comes whose key none before it has
    pub with_new_key : (xs : List D) (x : D) (find new : X → Option ℕ) (k : X) (n : ℕ) → ((q : X) → Within q → IsFirst (HasKey xs (meant q)) (find q))
        → Within k → meant k ≡ key x → find k ≡ None → n ≡ length xs → ((q : X) → new q ≡ cond (eq k q) (Some n) (find q))
        → ((q : X) → Within q → IsFirst (HasKey (xs ++ x ∷ []) (meant q)) (new q)) × IsLeast (HasKey (xs ++ x ∷ []) (key x)) n
    with_new_key xs x find new k n knows within is missing at updates =
        (λ q w. by q w (eq k q) refl, subst (λ z. IsLeast (HasKey (xs ++ x ∷ []) z) n) is (first (meant k) is none))
      where
        none : (m : ℕ) → HasKey xs (meant k) m → ⊥
        none = subst (IsFirst (HasKey xs (meant k))) missing (knows k within)

        first : (z : K) → z ≡ key x → ((m : ℕ) → HasKey xs z m → ⊥) → IsLeast (HasKey (xs ++ x ∷ []) z) n
        first z e none = subst (IsLeast (HasKey (xs ++ x ∷ []) z)) (sym at)
            (last_first _ _ (length xs) (keeps xs (x ∷ []) z) (splits xs x z) (below xs z) (makes (xs ++ x ∷ []) z (length xs) x (slice_get-push xs x) (sym e)) none)

        by : (q : X) → Within q → (b : Bool) → eq k q ≡ b → IsFirst (HasKey (xs ++ x ∷ []) (meant q)) (new q)
        by q w true e = subst (IsFirst (HasKey (xs ++ x ∷ []) (meant q))) (sym (updates q ∙ ap (λ b. cond b (Some n) (find q)) e))
            (first (meant q) (sym (same k q e) ∙ is) (subst (λ z. (m : ℕ) → HasKey xs z m → ⊥) (same k q e) none))
        by q w false e = subst (IsFirst (HasKey (xs ++ x ∷ []) (meant q))) (sym (updates q ∙ ap (λ b. cond b (Some n) (find q)) e))
            (other_first _ _ (length xs) (keeps xs (x ∷ []) (meant q)) (splits xs x (meant q)) (below xs (meant q)) (find q)
            (λ h. true≢false (sym (told k q within w (is ∙ last_has xs x (meant q) h)) ∙ e)) (knows q w))
