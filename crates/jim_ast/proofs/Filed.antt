-- Texts that are filed under their places.
use Rattle.std.proofs.Common.{◌≡◌, ◌≢◌, ◌⊎◌, ℕ, suc, Bool, true, false, cond, ◌+◌, ◌<◌, List, [], ◌∷◌, ◌++◌, Option, Some, length, slice_get, refl, sym, ap, ◌∙◌, inl, inr, arith, get_or, get_or-set_other}
use Rattle.std.specs.List.{slice_set}
use Rattle.std.specs.Str.{bytes_eq}
use Rattle.std.proofs.lemmas.Bool.{cases_eq}
use Rattle.std.proofs.lemmas.List.{length-set}
use Rattle.std.proofs.lemmas.Slice.Eq.{bytes_eq-Decides}
use Rattle.lists.specs.Lists.{Has, IsApart}
use Rattle.jim_ast.specs.Notes.{IsFiled, IsIndexed, IsNoted, hash, slot_of}
use Rattle.lists.proofs.Places.{IsApart-adds, slice_get-append_left, slice_get-push, slice_get-pushed}

Some-same : {X : Type 0} {i j : X} → Some i ≡ Some j → i ≡ j
Some-same e = cc

-- a note stays where a slot without a note gets one
pub IsNoted-set : (slots : List ℕ) (at v h i : ℕ) → get_or slots at 0 ≡ 0 → IsNoted slots h i → IsNoted (slice_set slots at v) h i
IsNoted-set slots at v h i empty noted =
    let s : ℕ = slot_of h noted.0 (length slots) in
    let other : s ≢ at = λ e. let both : suc i ≡ 0 = sym noted.2 ∙ ap (λ k. get_or slots k 0) e ∙ empty in absurd (omega (arith, both)) in
    (noted.0, noted.1, rw (length-set slots at v) (get_or-set_other slots at s v 0 other ∙ noted.2))

-- a number that is put under a text stands under it, and what stands under the others stays
module _ (others now : List ℕ → Option ℕ) (x : List ℕ) (n : ℕ) (put : (t : List ℕ) → now t ≡ cond (bytes_eq t x) (Some n) (others t)) where
  pub put-here : now x ≡ Some n
  put-here = put x ∙ ap (λ b. cond b (Some n) (others x)) ((bytes_eq-Decides x x).1 refl)

  pub put-each : (t : List ℕ) → (now t ≡ others t) ⊎ ((t ≡ x) × (now t ≡ Some n))
  put-each t = by (bytes_eq t x) refl
    where
      by : (b : Bool) → bytes_eq t x ≡ b → (now t ≡ others t) ⊎ ((t ≡ x) × (now t ≡ Some n))
      by true e = inr ((bytes_eq-Decides t x).0 e, put t ∙ ap (λ b. cond b (Some n) (others t)) e)
      by false e = inl (put t ∙ ap (λ b. cond b (Some n) (others t)) e)

-- the text at a place is filed anew
module _ (xs : List (List ℕ)) (apart : IsApart xs) (others now : List ℕ → Option ℕ) (n : ℕ) (x : List ℕ) (here : slice_get xs n ≡ Some x)
    (puts : (t : List ℕ) → (now t ≡ others t) ⊎ ((t ≡ x) × (now t ≡ Some n))) (sound : (t : List ℕ) (i : ℕ) → others t ≡ Some i → slice_get xs i ≡ Some t) where
  pub sound-anew : (t : List ℕ) (i : ℕ) → now t ≡ Some i → slice_get xs i ≡ Some t
  sound-anew t i h = elim (puts t) [
    | inl same ↦ sound t i (sym same ∙ h)
    | inr put ↦ rw (put.0, sym (Some-same (sym put.1 ∙ h))) here
  ]

  pub more-anew : (t : List ℕ) (i : ℕ) → others t ≡ Some i → now t ≡ Some i
  more-anew t i h = elim (puts t) [
    | inl same ↦ same ∙ h
    | inr put ↦ put.1 ∙ ap Some (apart n i t (here ∙ ap Some (sym put.0)) (sound t i h))
  ]

  pub each-anew : (slots after : List ℕ) → IsFiled after now x n → ((h i : ℕ) → IsNoted slots h i → IsNoted after h i)
      → ((i : ℕ) (t : List ℕ) → i < n → slice_get xs i ≡ Some t → IsFiled slots others t i) → (i : ℕ) (t : List ℕ) → i < n + 1 → slice_get xs i ≡ Some t → IsFiled after now t i
  each-anew slots after filed kept each i t below h = elim (cases_eq i n) [
    | inl e ↦ let same : t ≡ x = Some-same (sym h ∙ ap (slice_get xs) e ∙ here) in rw (e, same) filed
    | inr ne ↦ elim (each i t (omega (arith, ne, below)) h) [ inl noted ↦ inl (kept (hash t) i noted) | inr other ↦ inr (more-anew t i other) ]
  ]

-- the text at a place is among the others, and stays there
pub each-left : (xs : List (List ℕ)) (n : ℕ) (x : List ℕ) → slice_get xs n ≡ Some x → (slots : List ℕ) (others : List ℕ → Option ℕ) → others x ≡ Some n
    → ((i : ℕ) (t : List ℕ) → i < n → slice_get xs i ≡ Some t → IsFiled slots others t i) → (i : ℕ) (t : List ℕ) → i < n + 1 → slice_get xs i ≡ Some t → IsFiled slots others t i
each-left xs n x here slots others other each i t below h = elim (cases_eq i n) [
  | inl e ↦ let same : t ≡ x = Some-same (sym h ∙ ap (slice_get xs) e ∙ here) in rw (e, same) (inr other)
  | inr ne ↦ each i t (omega (arith, ne, below)) h
]

module _ (xs : List (List ℕ)) (slots after : List ℕ) (others now : List ℕ → Option ℕ) (indexed : IsIndexed xs slots others) where
  -- a new text is filed under the next number
  pub IsIndexed-push : (x : List ℕ) → (Has xs x → ⊥) → IsFiled after now x (length xs) → ((h i : ℕ) → IsNoted slots h i → IsNoted after h i)
      → ((t : List ℕ) → (now t ≡ others t) ⊎ ((t ≡ x) × (now t ≡ Some (length xs)))) → IsIndexed (xs ++ x ∷ []) after now
  IsIndexed-push x new filed kept puts = record {
    apart = IsApart-adds xs (xs ++ x ∷ []) x indexed.apart (inr (new, refl));
    sound = λ t i h. elim (puts t) [
      | inl same ↦ slice_get-append_left xs (x ∷ []) i t (indexed.sound t i (sym same ∙ h))
      | inr put ↦ rw (put.0, sym (Some-same (sym put.1 ∙ h))) (slice_get-push xs x)
    ];
    each = λ i t h. elim (slice_get-pushed xs x i t h) [
      | inl there ↦ elim (indexed.each i t there) [
        | inl noted ↦ inl (kept (hash t) i noted)
        | inr other ↦ inr (elim (puts t) [ inl same ↦ same ∙ other | inr put ↦ absurd (new (i, there ∙ ap Some put.0)) ])
      ]
      | inr last ↦ rw (last.0, last.1) filed
    ];
  }

  -- notes stay, and so do the others
  pub IsIndexed-kept : ((h i : ℕ) → IsNoted slots h i → IsNoted after h i) → ((t : List ℕ) → now t ≡ others t) → IsIndexed xs after now
  IsIndexed-kept kept same = record {
    apart = indexed.apart;
    sound = λ t i h. indexed.sound t i (sym (same t) ∙ h);
    each = λ i t h. elim (indexed.each i t h) [ inl noted ↦ inl (kept (hash t) i noted) | inr other ↦ inr (same t ∙ other) ];
  }

  -- more texts are among the others
  pub IsIndexed-more : ((t : List ℕ) (i : ℕ) → now t ≡ Some i → slice_get xs i ≡ Some t) → ((t : List ℕ) (i : ℕ) → others t ≡ Some i → now t ≡ Some i) → IsIndexed xs slots now
  IsIndexed-more sound more = record {
    apart = indexed.apart;
    sound = sound;
    each = λ i t h. elim (indexed.each i t h) [ inl noted ↦ inl noted | inr other ↦ inr (more t i other) ];
  }
