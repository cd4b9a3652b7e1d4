-- Words that are lists.
use Rattle.std.proofs.Common.{◌≡◌, ◌↔◌, ℕ, zero, suc, ◌+◌, ◌<◌, ◌≤◌, ◌==◌, List, [], ◌∷◌, ◌++◌, Option, Some, None, Result, Ok, Err, IfOk, All, Bor, length, get_or, map, slice_get, take, refl, sym, ap, subst, ◌∙◌, arith}
use Rattle.std.specs.Fmt.{decimal}
use Rattle.std.specs.List.{join_with_byte, slice_split}
use Rattle.std.proofs.lemmas.List.{length-map, take_all}
use Rattle.std.proofs.lemmas.List.Elements.{All-head, All-nil, All-push, All-tail}
use Rattle.std.proofs.lemmas.List.Splits.{join_with_byte-slice_split, length-slice_split}
use Rattle.lists.proofs.Places.{take-next}
use Rattle.cert_text.proofs.TextLines.{word_at}
use Rattle.link_laws.proofs.Lists.{at_all, at_map}
use Rattle.link_sites.specs.declared.place.Place.{Place}
use Rattle.cert_rules.specs.Spelled.{FitsCall, IsRoomy, call_text}
use Rattle.cert_text.specs.Words.{AreCalls, AreNumbers, texts, SpellsNumbers, SpellsString}
use Rattle.cert_text.proofs.LineWords.{calls_cut, numbers_cut}
use Rattle.cert_text.proofs.NodeWords.{call_cut, none_iff, some_iff}
use Rattle.cert_text.proofs.Numerals.{number_one}

module _ {X : Type 0} (text : X → List ℕ) (Fits : X → Type 0) (one : (x y : X) → Fits x → Fits y → text x ≡ text y → x ≡ y) where
  abbrev AreTexts : List (List ℕ) → List X → Type 0
  AreTexts words xs = (words ≡ map text xs) × All Fits xs

  -- words are the texts of one list
  pub texts_one : (words : List (List ℕ)) (xs ys : List X) → AreTexts words xs → AreTexts words ys → xs ≡ ys
  texts_one words [] [] p q = refl
  texts_one words [] (y ∷ ys) p q = let a = p.0 in let b = q.0 in cc
  texts_one words (x ∷ xs) [] p q = let a = p.0 in let b = q.0 in cc
  texts_one [] (x ∷ xs) (y ∷ ys) p q = let a = p.0 in cc
  texts_one (w ∷ words) (x ∷ xs) (y ∷ ys) p q =
      let a = p.0 in
      let b = q.0 in
      let first : text x ≡ text y = cc in
      let rest : words ≡ map text xs = cc in
      let others : words ≡ map text ys = cc in
      let head = one x y (All-head Fits x xs p.1) (All-head Fits y ys q.1) first in
      let tail = texts_one words xs ys (rest, All-tail Fits x xs p.1) (others, All-tail Fits y ys q.1) in
      cc

  map_push : (xs : List X) (x : X) → map text (xs ++ x ∷ []) ≡ map text xs ++ text x ∷ []
  map_push [] x = refl
  map_push (y ∷ xs) x = ap (λ l. text y ∷ l) (map_push xs x)

  -- one word more
  pub texts_next : (words : List (List ℕ)) (xs : List X) (i : ℕ) (word : List ℕ) (x : X) → AreTexts (take i words) xs → slice_get words i ≡ Some word → word ≡ text x → Fits x
      → AreTexts (take (i + 1) words) (xs ++ x ∷ [])
  texts_next words xs i word x are there is fits =
      (take-next words i word there ∙ ap (λ l. l ++ word ∷ []) are.0 ∙ ap (λ w. map text xs ++ w ∷ []) is ∙ sym (map_push xs x), All-push Fits xs x are.1 fits)

  -- what a word is the text of
  pub texts_at : (words : List (List ℕ)) (xs : List X) (i : ℕ) (word : List ℕ) → AreTexts words xs → slice_get words i ≡ Some word → (x : X) × (word ≡ text x) × Fits x
  texts_at words xs i word are there =
      let at = at_map text xs i word (subst (λ l. slice_get l i ≡ Some word) are.0 there) in
      (at.0, at.2, at_all Fits xs i at.0 are.1 at.1)

pub roomy_one : (m n : ℕ) → IsRoomy m → IsRoomy n → decimal m ≡ decimal n → m ≡ n
roomy_one m n p q e = number_one (decimal m) m n (refl, p) (e, q)

module _ {X : Type 0} (text : X → List ℕ) (Fits : X → Type 0) (one : (x y : X) → Fits x → Fits y → text x ≡ text y → x ≡ y) where
  abbrev Spells : List ℕ → X → Type 0
  Spells word x = (word ≡ text x) × Fits x

  abbrev Are : List (List ℕ) → List X → Type 0
  Are words xs = (words ≡ map text xs) × All Fits xs

  -- a word that is none of them
  pub words_none : (words : List (Bor (List ℕ))) (i : ℕ) (d : Bor (List ℕ)) → i < length words → ((x : X) → (None ≡ Some x) ↔ Spells (get_or words i d).now x)
      → (xs : List X) → (None ≡ Some xs) ↔ Are (texts words) xs
  words_none words i d less none = none_iff {P = Are (texts words)} (λ xs are.
      let at = texts_at text Fits one (texts words) xs i (get_or words i d).now are (word_at words i d less) in
      let read = (none at.0).1 (at.1, at.2) in cc)

  -- one word more
  pub words_more : (words : List (Bor (List ℕ))) (i : ℕ) (d : Bor (List ℕ)) (done new : List X) (x : X) → i < length words → new ≡ done ++ x ∷ []
      → ((y : X) → (Some x ≡ Some y) ↔ Spells (get_or words i d).now y) → Are (take i (texts words)) done → Are (take (i + 1) (texts words)) new
  words_more words i d done new x less is reads are =
      let spells = (reads x).0 refl in
      subst (Are (take (i + 1) (texts words))) (sym is) (texts_next text Fits one (texts words) done i (get_or words i d).now x are (word_at words i d less) spells.0 spells.1)

  -- all of them
  pub words_end : (words : List (Bor (List ℕ))) (i : ℕ) (done r : List X) → length words ≤ i → r ≡ done → Are (take i (texts words)) done → (xs : List X) → (Some r ≡ Some xs) ↔ Are (texts words) xs
  words_end words i done r all is are =
      let whole : take i (texts words) ≡ texts words = take_all i (texts words) (omega (arith, length-map words (λ w. w.now))) in
      let spelled : Are (texts words) r = subst (Are (texts words)) (sym is) (subst (λ l. Are l done) whole are) in
      some_iff {P = Are (texts words)} r spelled (λ xs other. texts_one text Fits one (texts words) xs r other spelled)

-- what is cut at commas
some_parts : (word : List ℕ) → 0 < length (slice_split (λ b. b == 44) word)
some_parts word = omega (arith, length-slice_split (λ b. b == 44) word)

pub numbers_iff : (word : List ℕ) (words : List (List ℕ)) (ns : List ℕ) → words ≡ slice_split (λ b. b == 44) word → AreNumbers words ns ↔ SpellsNumbers word ns
numbers_iff word words ns cut = (
  λ are. (sym (join_with_byte-slice_split 44 word) ∙ ap (join_with_byte 44) (sym cut ∙ are.0), (some ns are, are.1)),
  λ spells. (cut ∙ numbers_cut word ns spells, spells.1.1),
)
  where
    some : (ns : List ℕ) → AreNumbers words ns → 0 < length ns
    some [] are = let parts = some_parts word in let none : slice_split (λ b. b == 44) word ≡ [] = sym cut ∙ are.0 in absurd (omega (arith, ap length none))
    some (n ∷ ns) are = omega arith

pub string_iff : (word : List ℕ) (words : List (List ℕ)) (string : List Place) → words ≡ slice_split (λ b. b == 44) word → (word ≡ 45 ∷ [] → ⊥) → AreCalls words string ↔ SpellsString word string
string_iff word words [] cut dash = (
  λ are. let parts = some_parts word in let none : slice_split (λ b. b == 44) word ≡ [] = sym cut ∙ are.0 in absurd (omega (arith, ap length none)),
  λ spells. absurd (dash spells.0),
)
string_iff word words (c ∷ cs) cut dash = (
  λ are. (sym (join_with_byte-slice_split 44 word) ∙ ap (join_with_byte 44) (sym cut ∙ are.0), are.1),
  λ spells. (cut ∙ calls_cut word c cs spells, spells.1),
)

-- the same of what was read
pub numbers_read : {E : Type 0} (r : Result (Option (List ℕ)) E) (word : List ℕ) (words : List (List ℕ)) → words ≡ slice_split (λ b. b == 44) word
    → IfOk r (λ found. (ns : List ℕ) → (found ≡ Some ns) ↔ AreNumbers words ns) → IfOk r (λ found. (ns : List ℕ) → (found ≡ Some ns) ↔ SpellsNumbers word ns)
numbers_read (Ok found) word words cut reads = λ ns. let same = numbers_iff word words ns cut in ((λ e. same.0 ((reads ns).0 e)), λ is. (reads ns).1 (same.1 is))
numbers_read (Err e) word words cut reads = tt

pub string_read : {E : Type 0} (r : Result (Option (List Place)) E) (word : List ℕ) (words : List (List ℕ)) → words ≡ slice_split (λ b. b == 44) word → (word ≡ 45 ∷ [] → ⊥)
    → IfOk r (λ found. (calls : List Place) → (found ≡ Some calls) ↔ AreCalls words calls) → IfOk r (λ found. (calls : List Place) → (found ≡ Some calls) ↔ SpellsString word calls)
string_read (Ok found) word words cut dash reads = λ calls. let same = string_iff word words calls cut dash in ((λ e. same.0 ((reads calls).0 e)), λ is. (reads calls).1 (same.1 is))
string_read (Err e) word words cut dash reads = tt

-- the empty call string
pub dash_iff : (word : List ℕ) (r : List Place) → word ≡ 45 ∷ [] → r ≡ [] → (calls : List Place) → (Some r ≡ Some calls) ↔ SpellsString word calls
dash_iff word r dash none [] = ((λ e. (dash, All-nil FitsCall)), λ is. ap Some none)
dash_iff word r dash none (c ∷ cs) = (
  (λ e. let same : r ≡ c ∷ cs = cc in let never : [] ≡ c ∷ cs = sym none ∙ same in cc),
  λ is.
      let parts = calls_cut word c cs is in
      let cut : (45 ∷ []) ∷ [] ≡ map call_text (c ∷ cs) = sym (ap (slice_split (λ b. b == 44)) dash) ∙ parts in
      let first : 45 ∷ [] ≡ call_text c = cc in
      let has = call_cut (45 ∷ []) c (first, All-head FitsCall c cs is.1) in
      absurd (only has.0 has.1),
)
  where
    only : (i : ℕ) → slice_get {X = ℕ} (45 ∷ []) i ≡ Some 46 → ⊥
    only zero e = let same : ◌≡◌ {A = ℕ} 45 46 = cc in omega (arith, same)
    only (suc i) e = cc
