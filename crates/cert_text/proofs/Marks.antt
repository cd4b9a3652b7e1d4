-- Marks between words, and words without them.
use Rattle.std.proofs.Common.{◌≡◌, ℕ, zero, suc, ◌<◌, ◌≤◌, ◌==◌, false, List, [], ◌∷◌, ◌++◌, Some, All, Bor, length, refl, sym, ap, subst, ◌∙◌, arith, eq-eqb, append_assoc}
use Rattle.std.specs.List.{join_with_byte, slice_split}
use Rattle.std.proofs.lemmas.List.Splits.{slice_split_at, slice_split_none}
use Rattle.lists.specs.Lists.{Has}
use Rattle.lists.proofs.Cutting.{all_other}
use Rattle.cert_text.specs.Words.{texts}

module _ (c : ℕ) where
  -- words without the mark, joined by it, are cut into these words
  pub split_join : (words : List (List ℕ)) → 0 < length words → ((word : List ℕ) → Has words word → Has word c → ⊥)
      → slice_split (λ b. b == c) (join_with_byte c words) ≡ words
  split_join [] some lacks = absurd (omega arith)
  split_join (x ∷ []) some lacks = slice_split_none (λ b. b == c) x (all_other c x (lacks x (0, refl)))
  split_join (x ∷ y ∷ words) some lacks =
      slice_split_at (λ b. b == c) x c (join_with_byte c (y ∷ words)) (all_other c x (lacks x (0, refl))) (eq-eqb c c refl)
      ∙ ap (λ l. x ∷ l) (split_join (y ∷ words) (omega arith) (λ word h. lacks word (suc h.0, h.1)))

-- all bytes are above the bound
abbrev pub IsAbove : ℕ → List ℕ → Type 0
IsAbove low [] = Unit {0}
IsAbove low (x ∷ xs) = (low < x) × IsAbove low xs

-- and in each word
abbrev pub AreAbove : ℕ → List (List ℕ) → Type 0
AreAbove low [] = Unit {0}
AreAbove low (x ∷ xs) = IsAbove low x × AreAbove low xs

-- bytes above a mark are none
pub above_lacks : (low c : ℕ) (xs : List ℕ) → IsAbove low xs → c ≤ low → Has xs c → ⊥
above_lacks low c [] above less (i, e) = cc
above_lacks low c (x ∷ xs) above less (zero, e) = let same : x ≡ c = cc in omega (arith, same, above.0)
above_lacks low c (x ∷ xs) above less (suc i, e) = above_lacks low c xs above.1 less (i, e)

pub above_lower : (low high : ℕ) (xs : List ℕ) → low ≤ high → IsAbove high xs → IsAbove low xs
above_lower low high [] less above = tt
above_lower low high (x ∷ xs) less above = (omega (arith, above.0), above_lower low high xs less above.1)

pub above_append : (low : ℕ) (xs ys : List ℕ) → IsAbove low xs → IsAbove low ys → IsAbove low (xs ++ ys)
above_append low [] ys first second = second
above_append low (x ∷ xs) ys first second = (first.0, above_append low xs ys first.1 second)

-- words and the mark between them
pub above_join : (low c : ℕ) (words : List (List ℕ)) → low < c → AreAbove low words → IsAbove low (join_with_byte c words)
above_join low c [] less above = tt
above_join low c (x ∷ []) less above = above.0
above_join low c (x ∷ y ∷ words) less above = above_append low x (c ∷ join_with_byte c (y ∷ words)) above.0 (less, above_join low c (y ∷ words) less above.1)

-- no word has a mark that is no higher than the bound
pub words_lack : (low c : ℕ) (words : List (List ℕ)) → AreAbove low words → c ≤ low → (word : List ℕ) → Has words word → Has word c → ⊥
words_lack low c [] above less word (i, e) = cc
words_lack low c (x ∷ words) above less word (zero, e) = let same : x ≡ word = cc in λ h. above_lacks low c x above.0 less (subst (λ l. Has l c) (sym same) h)
words_lack low c (x ∷ words) above less word (suc i, e) = words_lack low c words above.1 less word (i, e)

-- a part in front of a mark is cut off first
pub cut_next : (c : ℕ) (rest part behind : List ℕ) → rest ≡ part ++ c ∷ behind → (Has part c → ⊥) → slice_split (λ b. b == c) rest ≡ part ∷ slice_split (λ b. b == c) behind
cut_next c rest part behind e lacks = ap (slice_split (λ b. b == c)) e ∙ slice_split_at (λ b. b == c) part c behind (all_other c part lacks) (eq-eqb c c refl)

pub cut_none : (c : ℕ) (rest : List ℕ) → (Has rest c → ⊥) → slice_split (λ b. b == c) rest ≡ rest ∷ []
cut_none c rest lacks = slice_split_none (λ b. b == c) rest (all_other c rest lacks)

pub texts_push : (front : List (Bor (List ℕ))) (last : Bor (List ℕ)) → texts (front ++ last ∷ []) ≡ texts front ++ last.now ∷ []
texts_push [] last = refl
texts_push (x ∷ front) last = ap (λ l. x.now ∷ l) (texts_push front last)

-- one part more is cut off
pub parts_next : (c : ℕ) (done : List (Bor (List ℕ))) (part : Bor (List ℕ)) (new : List (Bor (List ℕ))) (rest behind text : List ℕ) → new ≡ done ++ part ∷ [] → rest ≡ part.now ++ c ∷ behind
    → (Has part.now c → ⊥) → texts done ++ slice_split (λ b. b == c) rest ≡ slice_split (λ b. b == c) text → texts new ++ slice_split (λ b. b == c) behind ≡ slice_split (λ b. b == c) text
parts_next c done part new rest behind text is e lacks before =
    ap (λ l. texts l ++ slice_split (λ b. b == c) behind) is
    ∙ ap (λ l. l ++ slice_split (λ b. b == c) behind) (texts_push done part)
    ∙ append_assoc (texts done) (part.now ∷ []) (slice_split (λ b. b == c) behind)
    ∙ ap (λ l. texts done ++ l) (sym (cut_next c rest part.now behind e lacks))
    ∙ before

-- what is left is the last part
pub parts_end : (c : ℕ) (done : List (Bor (List ℕ))) (rest : Bor (List ℕ)) (new : List (Bor (List ℕ))) (text : List ℕ) → new ≡ done ++ rest ∷ [] → (Has rest.now c → ⊥)
    → texts done ++ slice_split (λ b. b == c) rest.now ≡ slice_split (λ b. b == c) text → texts new ≡ slice_split (λ b. b == c) text
parts_end c done rest new text is lacks before = ap texts is ∙ texts_push done rest ∙ ap (λ l. texts done ++ l) (sym (cut_none c rest.now lacks)) ∙ before
