-- A fact of all items of a list is one of all items of its two halves, and so is what they became.
use Rattle.std.proofs.Common.{◌≡◌, ◌+◌, ◌⊎◌, ℕ, List, [], ◌∷◌, ◌++◌, Some, get_or, length, inl, inr, zero, suc, slice_get, subst, sym, arith}
use Rattle.std.proofs.lemmas.Option.{slice_get-get_or, slice_get_within}
use Rattle.piece_join.specs.Brought.{AllAt, AllBecome}

module _ {T : Type 0} where
  -- an item of two lists put together is one of the first, or one of the second
  slice_get-append : (xs ys : List T) (i : ℕ) (x : T) → slice_get (xs ++ ys) i ≡ Some x
      → (slice_get xs i ≡ Some x) ⊎ ((k : ℕ) × (i ≡ length xs + k) × (slice_get ys k ≡ Some x))
  slice_get-append [] ys i x h = inr (i, omega arith, h)
  slice_get-append (z ∷ xs) ys zero x h = inl h
  slice_get-append (z ∷ xs) ys (suc i) x h = elim (slice_get-append xs ys i x h) [
    | inl a ↦ inl a
    | inr b ↦ inr (b.0, (let e = b.1 in omega arith), b.2)
  ]

  -- an item of the first is one of both, with its number
  slice_get-append_left : (xs ys : List T) (i : ℕ) (x : T) → slice_get xs i ≡ Some x → slice_get (xs ++ ys) i ≡ Some x
  slice_get-append_left [] ys i x h = cc
  slice_get-append_left (y ∷ xs) ys zero x h = h
  slice_get-append_left (y ∷ xs) ys (suc i) x h = slice_get-append_left xs ys i x h

  -- an item of the second is one of both, with its number behind the first
  slice_get-append_right : (xs ys : List T) (i : ℕ) (x : T) → slice_get ys i ≡ Some x → slice_get (xs ++ ys) (length xs + i) ≡ Some x
  slice_get-append_right [] ys i x h =
      let at : 0 + i ≡ i = omega arith in
      subst (λ (n : ℕ). slice_get ys n ≡ Some x) (sym at) h
  slice_get-append_right (y ∷ xs) ys i x h =
      let at : suc (length xs + i) ≡ length (y ∷ xs) + i = omega arith in
      subst (λ (n : ℕ). slice_get (y ∷ (xs ++ ys)) n ≡ Some x) at (slice_get-append_right xs ys i x h)

  -- what the items of both halves became, all became
  pub become_both : (becomes : ℕ → T → T → Type 0) (first middle : ℕ) (front back front' back' : List T) → middle ≡ first + length front → length front' ≡ length front
      → AllBecome becomes first front front' → AllBecome becomes middle back back' → AllBecome becomes first (front ++ back) (front' ++ back')
  become_both becomes first middle front back front' back' at kept a b i old new was is = by (slice_get-append front back i old was) (slice_get-append front' back' i new is)
    where
      by : (slice_get front i ≡ Some old) ⊎ ((k : ℕ) × (i ≡ length front + k) × (slice_get back k ≡ Some old))
          → (slice_get front' i ≡ Some new) ⊎ ((k : ℕ) × (i ≡ length front' + k) × (slice_get back' k ≡ Some new)) → becomes (first + i) old new
      by (inl left) (inl left') = a i old new left left'
      by (inl left) (inr right') = absurd (let e = right'.1 in let low = slice_get_within front i old left in omega arith)
      by (inr right) (inl left') = absurd (let e = right.1 in let low = slice_get_within front' i new left' in omega arith)
      by (inr right) (inr right') =
          let same : right'.0 ≡ right.0 = (let e = right.1 in let e' = right'.1 in omega arith) in
          let here : middle + right.0 ≡ first + i = (let e = right.1 in omega arith) in
          let there : slice_get back' right.0 ≡ Some new = subst (λ (n : ℕ). slice_get back' n ≡ Some new) same right'.2 in
          subst (λ (n : ℕ). becomes n old new) here (b right.0 old new right.2 there)

  -- what holds of all holds of the front half
  pub all_front : (fact : ℕ → T → Type 0) (first : ℕ) (front back : List T) → AllAt fact first (front ++ back) → AllAt fact first front
  all_front fact first front back all i item is = all i item (slice_get-append_left front back i item is)

  -- and of the back half, whose numbers go on from the middle
  pub all_back : (fact : ℕ → T → Type 0) (first middle : ℕ) (front back : List T) → middle ≡ first + length front → AllAt fact first (front ++ back) → AllAt fact middle back
  all_back fact first middle front back at all i item is =
      let here : first + (length front + i) ≡ middle + i = omega arith in
      subst (λ (n : ℕ). fact n item) here (all (length front + i) item (slice_get-append_right front back i item is))

  -- what is at a place now became of what was there before
  pub became : (becomes : ℕ → T → T → Type 0) (first : ℕ) (before after : List T) → length after ≡ length before → AllBecome becomes first before after
      → (i : ℕ) (new : T) → slice_get after i ≡ Some new → (old : T) × (slice_get before i ≡ Some old) × becomes (first + i) old new
  became becomes first before after count all i new is =
      let low = slice_get_within after i new is in
      let was = slice_get-get_or before i new (omega arith) in
      (get_or before i new, was, all i (get_or before i new) new was is)
