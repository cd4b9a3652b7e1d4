-- Words without the common mark.
use Rattle.std.proofs.Common.{◌≡◌, ◌≢◌, ◌<◌, ◌≤◌, ℕ, zero, suc, ◌+◌, Bool, true, false, List, [], ◌∷◌, ◌++◌, get_or, length, drop, refl, sym, ap, ◌∙◌, append_assoc, arith}
use Rattle.std.proofs.lemmas.List.{append-nil}
use Rattle.post_star.specs.declared.bases.BaseStep.{BaseStep}
use Rattle.rule_marks.specs.Split.{with_mark}
use Rattle.call_side.specs.Coded.{code, common_mark, is_split}

common_split : (steps : List BaseStep) → is_split steps common_mark ≡ true
common_split steps = refl

module _ (steps : List BaseStep) where
  -- what a code begins with, where it begins with the common mark
  pub common_first : (word plain : List ℕ) → common_mark ∷ word ≡ code steps plain → (mark : ℕ) × (rest : List ℕ) × (plain ≡ mark ∷ rest) × (word ≡ mark ∷ code steps rest)
  common_first word [] e = cc
  common_first word (k ∷ rest) e = by (is_split steps k) refl
    where
      by : (t : Bool) → is_split steps k ≡ t → (mark : ℕ) × (others : List ℕ) × (k ∷ rest ≡ mark ∷ others) × (word ≡ mark ∷ code steps others)
      by true split =
          let same : common_mark ∷ word ≡ common_mark ∷ (k ∷ code steps rest) = e ∙ ap (λ t. with_mark t common_mark (k ∷ code steps rest)) split in
          (k, rest, refl, cc)
      by false whole =
          let same : common_mark ∷ word ≡ k ∷ code steps rest = e ∙ ap (λ t. with_mark t common_mark (k ∷ code steps rest)) whole in
          let first : k ≡ common_mark = cc in
          absurd (let both : true ≡ false = sym (common_split steps) ∙ ap (is_split steps) (sym first) ∙ whole in cc)

  -- and where it begins with another
  pub other_first : (mark : ℕ) (word plain : List ℕ) → mark ≢ common_mark → mark ∷ word ≡ code steps plain → (rest : List ℕ) × (plain ≡ mark ∷ rest) × (word ≡ code steps rest)
  other_first mark word [] apart e = cc
  other_first mark word (k ∷ rest) apart e = by (is_split steps k) refl
    where
      by : (t : Bool) → is_split steps k ≡ t → (others : List ℕ) × (k ∷ rest ≡ mark ∷ others) × (word ≡ code steps others)
      by true split =
          let same : mark ∷ word ≡ common_mark ∷ (k ∷ code steps rest) = e ∙ ap (λ t. with_mark t common_mark (k ∷ code steps rest)) split in
          let first : mark ≡ common_mark = cc in absurd (apart first)
      by false whole =
          let same : mark ∷ word ≡ k ∷ code steps rest = e ∙ ap (λ t. with_mark t common_mark (k ∷ code steps rest)) whole in
          let first : k ≡ mark = cc in (rest, ap (λ (m : ℕ). m ∷ rest) first, cc)

  pub none_left : (plain : List ℕ) → [] ≡ code steps plain → plain ≡ []
  none_left [] e = refl
  none_left (k ∷ rest) e = by (is_split steps k) refl
    where
      by : (t : Bool) → is_split steps k ≡ t → k ∷ rest ≡ []
      by true split = let same : [] ≡ common_mark ∷ (k ∷ code steps rest) = e ∙ ap (λ t. with_mark t common_mark (k ∷ code steps rest)) split in cc
      by false whole = let same : [] ≡ k ∷ code steps rest = e ∙ ap (λ t. with_mark t common_mark (k ∷ code steps rest)) whole in cc

-- so many marks of a word are decoded
abbrev pub IsDecodedTo : List ℕ → ℕ → List ℕ → Type 0
IsDecodedTo word at plain = (steps : List BaseStep) (w : List ℕ) → word ≡ code steps w → (rest : List ℕ) × (drop at word ≡ code steps rest) × (w ≡ plain ++ rest)

drop_next : (xs : List ℕ) (i d : ℕ) → i < length xs → drop i xs ≡ get_or xs i d ∷ drop (suc i) xs
drop_next [] i d low = absurd (omega arith)
drop_next (x ∷ xs) zero d low = refl
drop_next (x ∷ xs) (suc i) d low = drop_next xs i d (omega arith)

drop_all : (xs : List ℕ) (i : ℕ) → length xs ≤ i → drop i xs ≡ []
drop_all [] zero past = refl
drop_all [] (suc i) past = refl
drop_all (x ∷ xs) zero past = absurd (omega arith)
drop_all (x ∷ xs) (suc i) past = drop_all xs i (omega arith)

module _ (word plain : List ℕ) (at d : ℕ) (was : IsDecodedTo word at plain) (low : at < length word) where
  -- a mark behind the common one
  pub decoded_behind : get_or word at d ≡ common_mark → at + 1 < length word → IsDecodedTo word (at + 1 + 1) (plain ++ get_or word (at + 1) d ∷ [])
  decoded_behind is more steps w coded =
      let b = was steps w coded in
      let here : drop at word ≡ get_or word at d ∷ drop (suc at) word = drop_next word at d low in
      let next : drop (suc at) word ≡ get_or word (suc at) d ∷ drop (suc (suc at)) word = drop_next word (suc at) d (omega arith) in
      let front : common_mark ∷ drop (suc at) word ≡ code steps b.0 = ap (λ (m : ℕ). m ∷ drop (suc at) word) (sym is) ∙ sym here ∙ b.1 in
      let c = common_first steps (drop (suc at) word) b.0 front in
      let same : get_or word (suc at) d ∷ drop (suc (suc at)) word ≡ c.0 ∷ code steps c.1 = sym next ∙ c.3 in
      let mark_is : c.0 ≡ get_or word (suc at) d = cc in
      let others : drop (suc (suc at)) word ≡ code steps c.1 = cc in
      let one : at + 1 ≡ suc at = omega arith in
      let two : at + 1 + 1 ≡ suc (suc at) = omega arith in (
        c.1,
        ap (λ (n : ℕ). drop n word) two ∙ others,
        b.2 ∙ ap (λ (u : List ℕ). plain ++ u) (c.2 ∙ ap (λ (m : ℕ). m ∷ c.1) (mark_is ∙ ap (λ (n : ℕ). get_or word n d) (sym one)))
            ∙ sym (append_assoc plain (get_or word (at + 1) d ∷ []) c.1),
      )

  -- and one that stands alone
  pub decoded_alone : get_or word at d ≢ common_mark → IsDecodedTo word (at + 1) (plain ++ get_or word at d ∷ [])
  decoded_alone apart steps w coded =
      let b = was steps w coded in
      let here : drop at word ≡ get_or word at d ∷ drop (suc at) word = drop_next word at d low in
      let c = other_first steps (get_or word at d) (drop (suc at) word) b.0 apart (sym here ∙ b.1) in
      let one : at + 1 ≡ suc at = omega arith in (
        c.0,
        ap (λ (n : ℕ). drop n word) one ∙ c.2,
        b.2 ∙ ap (λ (u : List ℕ). plain ++ u) c.1 ∙ sym (append_assoc plain (get_or word at d ∷ []) c.0),
      )

  -- a code doesn't end with the common mark
  pub decoded_short : get_or word at d ≡ common_mark → length word ≤ at + 1 → (steps : List BaseStep) (w : List ℕ) → word ≡ code steps w → plain ≡ w
  decoded_short is short steps w coded =
      let b = was steps w coded in
      let here : drop at word ≡ get_or word at d ∷ drop (suc at) word = drop_next word at d low in
      let front : common_mark ∷ drop (suc at) word ≡ code steps b.0 = ap (λ (m : ℕ). m ∷ drop (suc at) word) (sym is) ∙ sym here ∙ b.1 in
      let c = common_first steps (drop (suc at) word) b.0 front in
      let end : drop (suc at) word ≡ [] = drop_all word (suc at) (omega arith) in
      absurd (let none : [] ≡ c.0 ∷ code steps c.1 = sym end ∙ c.3 in cc)

-- all are
pub decoded_all : (word plain : List ℕ) (at : ℕ) → IsDecodedTo word at plain → length word ≤ at → (steps : List BaseStep) (w : List ℕ) → word ≡ code steps w → plain ≡ w
decoded_all word plain at was past steps w coded =
    let b = was steps w coded in
    let none : b.0 ≡ [] = none_left steps b.0 (sym (drop_all word at past) ∙ b.1) in
    sym (b.2 ∙ ap (λ (u : List ℕ). plain ++ u) none ∙ append-nil plain)

pub decoded_none : (word : List ℕ) → IsDecodedTo word 0 []
decoded_none word steps w coded = (w, coded, refl)
