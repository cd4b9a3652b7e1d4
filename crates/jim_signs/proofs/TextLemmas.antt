-- The bytes of names and of texts are UTF-8.
use Rattle.std.proofs.Common.{◌≡◌, ℕ, zero, suc, ◌+◌, ◌-◌, ◌<◌, ◌≤◌, Bool, true, false, cond, ◌==◌, not, List, [], ◌∷◌, ◌++◌, length, take, drop, get_or, slice_range, filter, refl, sym, ap, ◌∙◌, subst, arith, codes, encode_utf8, append_assoc, add-one, IsUtf8, IsAscii, length-append, eqb-true, eq-eqb, true≢false, append-nil}
use Rattle.std.specs.Str.{encode_utf8_all, all_scalars, is_utf8, chars}
use Rattle.std.proofs.lemmas.Str.{IsUtf8-nil, IsUtf8-append, IsUtf8-encode, IsUtf8-from_ascii, IsUtf8-from_is_utf8, length-encode, inside_one}
use Rattle.std.proofs.lemmas.List.Elements.{filter-append}
use Rattle.std.proofs.Math.Seq.{drop-cons, take-append_seam}
use Rattle.jim_text.specs.Contents.{is_quote, contents}
use Rattle.jim_text.specs.Chars.{CharAt, Run, Has}
use Rattle.jim_text.specs.Chars.Run.{ends, goes}
use Rattle.jim_text.specs.Spelling.{Component, Joined, IsName, Item, Items, IsText}
use Rattle.jim_text.specs.Spelling.Component.{plain, quoted}
use Rattle.jim_text.specs.Spelling.Joined.{last, more}
use Rattle.jim_text.specs.Spelling.IsName.{init, clinit, joined}
use Rattle.jim_text.specs.Spelling.Item.{plain as plain_item, escape}
use Rattle.jim_text.specs.Spelling.Items.{ends as no_items, goes as more_items}
use Rattle.jim_text.proofs.CharLemmas.{byte_before}

-- a text in UTF-8 stands from one place to another
pub record TextAt (bytes : List ℕ) (from to : ℕ) : Type 0 where
  pub part : List ℕ
  pub text : IsUtf8 part
  pub ends : to ≡ from + length part
  pub spelled : drop from bytes ≡ part ++ drop to bytes

has_text : (bytes : List ℕ) (from to : ℕ) (text : List ℕ) → IsUtf8 text → Has bytes from text → to ≡ from + length text → IsUtf8 (slice_range bytes from to)
has_text bytes from to text utf8 has e = subst IsUtf8 (sym (ap (λ n. slice_range bytes from n) e ∙ has)) utf8

module _ {bytes : List ℕ} where
  empty_text : {from to : ℕ} → from ≡ to → TextAt bytes from to
  empty_text {from} {to} e = record { part = []; text = IsUtf8-nil; ends = omega (arith, e); spelled = ap (λ n. drop n bytes) e }

  join : {from middle to : ℕ} → TextAt bytes from middle → TextAt bytes middle to → TextAt bytes from to
  join {from} {middle} {to} a b = record {
    part = a.part ++ b.part;
    text = IsUtf8-append a.part b.part a.text b.text;
    ends = omega (arith, a.ends, b.ends, length-append a.part b.part);
    spelled = a.spelled ∙ ap (λ s. a.part ++ s) b.spelled ∙ sym (append_assoc a.part b.part (drop to bytes));
  }

  char_text : {from c to : ℕ} → CharAt bytes from c to → TextAt bytes from to
  char_text {from} {c} {to} here = record {
    part = encode_utf8 c;
    text = IsUtf8-encode c here.scalar;
    ends = here.ends ∙ ap (λ n. from + n) (sym (length-encode c));
    spelled = here.spelled;
  }

  byte_text : (at b : ℕ) → get_or bytes at 0 ≡ b → 0 < b → b < 128 → TextAt bytes at (at + 1)
  byte_text at b e some small = record {
    part = b ∷ [];
    text = IsUtf8-from_ascii (b ∷ []) ascii;
    ends = refl;
    spelled = rw (add-one, drop-cons bytes at 0 (byte_before bytes at b e some)) (ap (λ x. x ∷ drop (suc at) bytes) e);
  }
    where
      ascii : IsAscii (b ∷ [])
      ascii zero = small
      ascii (suc i) = omega arith

  run_text : {p : ℕ → Bool} {from to : ℕ} → Run p bytes from to → TextAt bytes from to
  run_text (ends e) = empty_text e
  run_text (goes here passes rest) = join (char_text here) (run_text rest)

  component_text : {from to : ℕ} → Component bytes from to → TextAt bytes from to
  component_text (plain here start run) = join (char_text here) (run_text run)
  component_text {from} {to} (quoted {close = close} quote some run closed e) =
      join (byte_text from 39 quote (omega arith) (omega arith)) (join (run_text run) (subst (TextAt bytes close) (sym e) (byte_text close 39 closed (omega arith) (omega arith))))

  joined_text : {from to : ℕ} → Joined bytes from to → TextAt bytes from to
  joined_text (last component) = component_text component
  joined_text (more {dot = dot} component e rest) = join (component_text component) (join (byte_text dot 46 e (omega arith) (omega arith)) (joined_text rest))

  item_text : {from to : ℕ} → Item bytes from to → TextAt bytes from to
  item_text (plain_item here passes) = char_text here
  item_text {from} (escape slash here passes) = join (byte_text from 92 slash (omega arith) (omega arith)) (char_text here)

  items_text : {from to : ℕ} → Items bytes from to → TextAt bytes from to
  items_text (no_items e) = empty_text e
  items_text (more_items item rest) = join (item_text item) (items_text rest)

  -- the part of the bytes between the two places is that text
  part_is : {from to : ℕ} (here : TextAt bytes from to) → slice_range bytes from to ≡ here.part
  part_is {from} {to} here =
      let long : to - from ≡ length here.part = omega (arith, here.ends) in
      ap (λ s. take (to - from) s) here.spelled ∙ ap (λ n. take n (here.part ++ drop to bytes)) long ∙ take-append_seam here.part (drop to bytes)

  part_text : {from to : ℕ} → TextAt bytes from to → IsUtf8 (slice_range bytes from to)
  part_text here = subst IsUtf8 (sym (part_is here)) here.text

  pub name_utf8 : {from to : ℕ} → IsName bytes from to → IsUtf8 (slice_range bytes from to)
  unfolding is_utf8 chars lib.Utf8.encode
  name_utf8 {from} {to} (init has e) = has_text bytes from to (codes "<init>") (IsUtf8-from_is_utf8 (codes "<init>") refl) has e
  name_utf8 {from} {to} (clinit has e) = has_text bytes from to (codes "<clinit>") (IsUtf8-from_is_utf8 (codes "<clinit>") refl) has e
  name_utf8 (joined name) = part_text (joined_text name)

  -- a text with its two quotes
  whole_text : {from to : ℕ} → IsText bytes from to → TextAt bytes from to
  whole_text {from} {to} text =
      join (byte_text from 34 text.opened (omega arith) (omega arith)) (join (items_text text.items) (subst (TextAt bytes text.close) (sym text.ends) (byte_text text.close 34 text.closed (omega arith) (omega arith))))

  pub text_utf8 : {from to : ℕ} → IsText bytes from to → IsUtf8 (slice_range bytes from to)
  text_utf8 text = part_text (whole_text text)

  -- the closing quote stands behind the opening one
  pub text_two : {from to : ℕ} → IsText bytes from to → from + 2 ≤ to
  text_two text = omega (arith, (items_text text.items).ends, text.ends)

-- the bytes of a character are the character alone, or none of them is ASCII
encode_plain : (c : ℕ) → ¬ (c ≡ 39) → (k : ℕ) → k < length (encode_utf8 c) → not (get_or (encode_utf8 c) k 0 == 39) ≡ true
encode_plain c other k within = by (get_or (encode_utf8 c) k 0 == 39) refl
  where
    by : (t : Bool) → (get_or (encode_utf8 c) k 0 == 39) ≡ t → not t ≡ true
    by true e =
        let quote : get_or (encode_utf8 c) k 0 ≡ 39 = eqb-true _ _ e in
        absurd (other (inside_one c [] (encode_utf8 c) k (sym (append-nil (encode_utf8 c))) within (omega arith) ∙ quote))
    by false e = refl

-- a filter keeps all where each element passes
filter-all : (p : ℕ → Bool) (xs : List ℕ) → ((k : ℕ) → k < length xs → p (get_or xs k 0) ≡ true) → filter p xs ≡ xs
filter-all p [] h = refl
filter-all p (x ∷ xs) h = ap (λ t. cond t (x ∷ filter p xs) (filter p xs)) (h 0 (omega arith)) ∙ ap (λ s. x ∷ s) (filter-all p xs (λ k less. h (suc k) (omega arith)))

-- the characters other than quotes are spelled by the bytes other than quotes
contents-encodes : (cs : List ℕ) → encode_utf8_all (filter (λ c. not (c == 39)) cs) ≡ contents (encode_utf8_all cs)
unfolding lib.Utf8.encode
contents-encodes [] = refl
contents-encodes (c ∷ cs) = by (c == 39) refl (contents-encodes cs)
  where
    by : (t : Bool) → (c == 39) ≡ t → encode_utf8_all (filter (λ c. not (c == 39)) cs) ≡ contents (encode_utf8_all cs)
        → encode_utf8_all (cond (not t) (c ∷ filter (λ c. not (c == 39)) cs) (filter (λ c. not (c == 39)) cs)) ≡ contents (encode_utf8 c ++ encode_utf8_all cs)
    by true e rest = rest ∙ sym (ap (λ b. contents (encode_utf8 b ++ encode_utf8_all cs)) (eqb-true c 39 e))
    by false e rest =
        let other : ¬ (c ≡ 39) = λ same. true≢false (sym (eq-eqb c 39 same) ∙ e) in
        let whole : contents (encode_utf8 c) ≡ encode_utf8 c = filter-all (λ b. not (b == 39)) (encode_utf8 c) (encode_plain c other) in
        ap (λ s. encode_utf8 c ++ s) rest ∙ sym (filter-append (λ b. not (b == 39)) (encode_utf8 c) (encode_utf8_all cs) ∙ ap (λ s. s ++ contents (encode_utf8_all cs)) whole)

-- characters that a filter keeps are characters
scalars-filter : (p : ℕ → Bool) (cs : List ℕ) → all_scalars cs ≡ true → all_scalars (filter p cs) ≡ true
scalars-filter p [] h = refl
scalars-filter p (c ∷ cs) h = by (p c) (scalars-filter p cs rest)
  where
    rest : all_scalars cs ≡ true
    rest = grind arith

    by : (t : Bool) → all_scalars (filter p cs) ≡ true → all_scalars (cond t (c ∷ filter p cs) (filter p cs)) ≡ true
    by true e = grind arith
    by false e = e

-- a name without its quotes is a text
pub contents_utf8 : (text : List ℕ) → IsUtf8 text → IsUtf8 (contents text)
contents_utf8 text utf8 =
    (filter (λ c. not (is_quote c)) utf8.0, (scalars-filter (λ c. not (is_quote c)) utf8.0 utf8.1.0, contents-encodes utf8.0 ∙ ap contents utf8.1.1))
