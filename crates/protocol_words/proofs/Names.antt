-- Names, and the characters between them.
use Rattle.std.proofs.Common.{◌≡◌, ◌≢◌, ◌↔◌, ℕ, zero, suc, ◌+◌, ◌<◌, ◌≤◌, ◌==◌, Bool, true, false, not, IsTrue, List, [], ◌∷◌, ◌++◌, Option, Some, None, MatchBool, MatchOption, Bor, length, get_or, take, drop, refl, sym, ap, subst, ◌∙◌, true≢false, arith, take-append-drop}
use Rattle.std.specs.Str.{NoCharPasses}
use Rattle.std.specs.Str.Pattern.{FindsChar, RFindsChar}
use Rattle.std.proofs.lemmas.Option.{get_or_from_slice_get}
use Rattle.std.proofs.lemmas.Str.Pattern.{IsSplitOnceResult, NoCharPasses-char, contains_char, drop_at_char, split_parts}
use Rattle.lists.specs.Lists.{Has}
use Rattle.lists.proofs.Cutting.{cut_first, has_between, has_more}
use Rattle.lists.proofs.Places.{slice_get-below}
use Rattle.track_rules.specs.Protocols.{AreNames, IsName, NamedRow, head_text}
use Rattle.protocol_words.specs.Spellings.{IsHead, IsRow}

-- the character that a place has stands there
has_at : (bs : List ℕ) (k c : ℕ) → k < length bs → get_or bs k 0 ≡ c → Has bs c
has_at [] k c h e = absurd (omega arith)
has_at (b ∷ bs) zero c h e = (0, ap Some e)
has_at (b ∷ bs) (suc k) c h e = let rest = has_at bs k c (omega arith) e in (suc rest.0, rest.1)

-- what `contains` tells of an ASCII character
module _ (c : ℕ) (bs : List ℕ) (r : Bool) (cases : MatchBool r ((i : ℕ) × (j : ℕ) × FindsChar c bs (Some (i, j)) × (i ≤ j) × (j ≤ length bs)) (FindsChar c bs None)) (low : c < 128) where
  pub contains_has : r ≡ true → Has bs c
  contains_has e = let k = (contains_char c bs r cases low).0 e in has_at bs k.0 c k.1 k.2

  pub contains_none : r ≡ false → Has bs c → ⊥
  contains_none e h =
      true≢false (sym ((contains_char c bs r cases low).1 h.0 (slice_get-below bs h.0 c h.1) (get_or_from_slice_get bs h.0 c 0 h.1)) ∙ e)

-- whether a text is a name, where it has a character and no blank
pub name_unless : (text : List ℕ) (r : Bool) → 0 < length text → (Has text 32 → ⊥) → (r ≡ true → Has text 59) → (r ≡ false → Has text 59 → ⊥) → IsTrue (not r) ↔ IsName text
name_unless text true some no_blank has none = ((λ e. absurd (true≢false (sym e))), λ name. absurd (name.no_semicolon (has refl)))
name_unless text false some no_blank has none = ((λ e. record { some = some; no_blank = no_blank; no_semicolon = none refl }), λ name. refl)

module _ (c : ℕ) where
  -- a list is cut in one way at the last place of a character
  pub cut_last : (xs ys zs ws : List ℕ) → (Has ys c → ⊥) → (Has ws c → ⊥) → xs ++ c ∷ ys ≡ zs ++ c ∷ ws → (xs ≡ zs) × (ys ≡ ws)
  cut_last [] ys [] ws p q e = (refl, cc)
  cut_last [] ys (z ∷ zs) ws p q e = let same : ys ≡ zs ++ c ∷ ws = cc in absurd (p (subst (λ l. Has l c) (sym same) (has_between zs ws c)))
  cut_last (x ∷ xs) ys [] ws p q e = let same : ws ≡ xs ++ c ∷ ys = cc in absurd (q (subst (λ l. Has l c) (sym same) (has_between xs ys c)))
  cut_last (x ∷ xs) ys (z ∷ zs) ws p q e =
      let first : x ≡ z = cc in
      let rest : xs ++ c ∷ ys ≡ zs ++ c ∷ ws = cc in
      let more = cut_last xs ys zs ws p q rest in
      (cc (first, more.0), more.1)

  -- a character that no place has stands nowhere
  nowhere : (bs : List ℕ) → ((i : ℕ) → i < length bs → get_or bs i 0 ≢ c) → Has bs c → ⊥
  nowhere bs none h = none h.0 (slice_get-below bs h.0 c h.1) (get_or_from_slice_get bs h.0 c 0 h.1)

  -- what `split_once` tells of an ASCII character
  pub once_none : (bs : List ℕ) → IsSplitOnceResult c bs None → c < 128 → Has bs c → ⊥
  once_none bs cases low = nowhere bs (split_parts c bs None cases low)

  pub once_some : (bs : List ℕ) (x : Bor (List ℕ) × Bor (List ℕ)) → IsSplitOnceResult c bs (Some x) → c < 128 → (bs ≡ x.0.now ++ c ∷ x.1.now) × (Has x.0.now c → ⊥)
  once_some bs x cases low = let parts = split_parts c bs (Some x) cases low in (parts.0, nowhere x.0.now parts.1)

  -- and `rsplit_once`
  abbrev pub IsLastSplit : List ℕ → Option (Bor (List ℕ) × Bor (List ℕ)) → Type 0
  IsLastSplit bs r = MatchOption r (RFindsChar c bs None) (λ x. (i : ℕ) × (j : ℕ) × RFindsChar c bs (Some (i, j)) × (x.0.now ≡ take i bs) × (x.1.now ≡ drop j bs) × (i ≤ j) × (length x.0.now ≡ i) × (length x.1.now + j ≡ length bs))

  pub last_none : (bs : List ℕ) → IsLastSplit bs None → c < 128 → Has bs c → ⊥
  last_none bs cases low = nowhere bs (λ i. NoCharPasses-char c bs i cases low)

  pub last_some : (bs : List ℕ) (x : Bor (List ℕ) × Bor (List ℕ)) → IsLastSplit bs (Some x) → c < 128 → (bs ≡ x.0.now ++ c ∷ x.1.now) × (Has x.1.now c → ⊥)
  last_some bs x h low = (
    sym (take-append-drop h.0 bs) ∙ (λ k. sym h.3 k ++ (drop_at_char c bs h.0 h.1 h.2.1 low ∙ ap (λ l. c ∷ l) (sym h.4)) k),
    nowhere x.1.now (λ i. NoCharPasses-char c x.1.now i (subst (NoCharPasses (λ d. d == c)) (sym h.4) h.2.0) low),
  )

-- a text with a blank in it is two names in one way
pub head_one : (part a b x y : List ℕ) → IsHead part a b → part ≡ x ++ 32 ∷ y → (Has x 32 → ⊥) → (a ≡ x) × (b ≡ y)
head_one part a b x y head e none = cut_first 32 a b x y head.is_first.no_blank none (sym head.is_text ∙ e)

-- and three names in one way
pub row_one : (part x y : List ℕ) (row : NamedRow) → IsRow part row → part ≡ x ++ 32 ∷ y → (Has y 32 → ⊥) → (head_text row.from row.event ≡ x) × (row.to ≡ y)
row_one part x y row is e none = cut_last 32 (head_text row.from row.event) row.to x y is.names.to.no_blank none (sym is.is_text ∙ e)

-- the first two of three names are two names
pub row_head : (key : List ℕ) (row : NamedRow) → AreNames row → head_text row.from row.event ≡ key → IsHead key row.from row.event
row_head key row names e = record { is_text = sym e; is_first = names.from; is_second = names.event }
