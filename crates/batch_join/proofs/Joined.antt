-- Lists of texts by their places.
use Rattle.std.proofs.Common.{◌≡◌, ◌<◌, ◌+◌, ◌⊎◌, ◌∙◌, ℕ, List, [], ◌∷◌, ◌++◌, Some, length, inl, inr, zero, suc, slice_get, subst, sym, length-append, arith}
use Rattle.std.proofs.lemmas.List.{ext_get_or}
use Rattle.std.proofs.lemmas.Option.{slice_get-get_or}
use Rattle.batch_join.specs.Told.{AreTold}

-- an element of two lists put together is one of the first, or one of the second
slice_get-append : {X : Type 0} (xs ys : List X) (i : ℕ) (x : X) → slice_get (xs ++ ys) i ≡ Some x
    → (slice_get xs i ≡ Some x) ⊎ ((k : ℕ) × (i ≡ length xs + k) × (slice_get ys k ≡ Some x))
slice_get-append [] ys i x h = inr (i, omega arith, h)
slice_get-append (z ∷ xs) ys zero x h = inl h
slice_get-append (z ∷ xs) ys (suc i) x h = elim (slice_get-append xs ys i x h) [
  | inl a ↦ inl a
  | inr b ↦ inr (b.0, (let e = b.1 in omega arith), b.2)
]

-- what is told of two halves is told of the whole
pub told_both : (tells : ℕ → List ℕ → Type 0) (first half rest middle count : ℕ) (texts behind : List (List ℕ)) → middle ≡ first + half → count ≡ half + rest
    → AreTold tells first half texts → AreTold tells middle rest behind → AreTold tells first count (texts ++ behind)
told_both tells first half rest middle count texts behind at whole front back = record {
  count_is = omega (arith, length-append texts behind, front.count_is, back.count_is);
  each = λ i text is. elim (slice_get-append texts behind i text is) [
    | inl left ↦ front.each i text left
    | inr right ↦
        subst (λ (n : ℕ). tells n text) (let e = right.1 in let n = front.count_is in omega arith) (back.each right.0 text right.2)
  ];
}

-- where of each number one text may be told at most, two lists of so many texts are one
pub told_once : (tells : ℕ → List ℕ → Type 0) → ((number : ℕ) (text other : List ℕ) → tells number text → tells number other → text ≡ other)
    → (first count : ℕ) (texts others : List (List ℕ)) → AreTold tells first count texts → AreTold tells first count others → texts ≡ others
told_once tells one first count texts others a b = ext_get_or [] texts others (a.count_is ∙ sym b.count_is)
    (λ i low.
    let within : i < length others = omega (arith, a.count_is, b.count_is) in
    one (first + i) _ _ (a.each i _ (slice_get-get_or texts i [] low)) (b.each i _ (slice_get-get_or others i [] within)))
