-- What is spelled in one list of bytes is spelled in another that has the same bytes there.
use Rattle.std.proofs.Common.{◌≡◌, ℕ, ◌+◌, ◌-◌, ◌<◌, ◌≤◌, ◌==◌, ◌&&◌, ◌||◌, not, Bool, true, false, List, ◌++◌, length, take, drop, get_or, refl, sym, ap, ◌∙◌, subst, inl, inr, arith, codes, encode_utf8, IsTrue, IsFalse}
use Rattle.std.specs.Prelude.{slice_range}
use Rattle.std.proofs.lemmas.List.{drop-take, take-take, drop-drop, take-append-drop, get_or-take, get_or_past, length-take, length-drop}
use Rattle.std.proofs.lemmas.Str.{length-encode}
use Rattle.std.proofs.Math.Seq.{take-append_seam}
use Rattle.jim_text.specs.declared.Kind.{Kind}
use Rattle.jim_text.specs.declared.Kind.TheVariants.{Word, Name, Number, Text, At, Mark}
use Rattle.jim_text.specs.Chars.{CharAt, Run, Has}
use Rattle.jim_text.specs.Chars.Run.{ends, goes}
use Rattle.jim_text.specs.Words.{is_reserved}
use Rattle.jim_text.specs.Spelling.{is_sign, is_exponent, is_long, is_float, is_single, is_bare, Digits, Optional, Exponent, IsNumber, Item, Items, IsText, IsAt, IsMark, Component, Joined, IsName, Spells}
use Rattle.jim_text.specs.Spelling.Exponent.{none, power}
use Rattle.jim_text.specs.Spelling.IsNumber.{integer, hexadecimal, decimal, infinity, minus_infinity, not_a_number}
use Rattle.jim_text.specs.Spelling.Item.{plain as itself, escape}
use Rattle.jim_text.specs.Spelling.Items.{ends as no_items, goes as more_items}
use Rattle.jim_text.specs.Spelling.IsAt.{this, caught, parameter}
use Rattle.jim_text.specs.Spelling.IsMark.{single, double, triple}
use Rattle.jim_text.specs.Spelling.Component.{plain, quoted}
use Rattle.jim_text.specs.Spelling.Joined.{last, more}
use Rattle.jim_text.specs.Spelling.IsName.{init, clinit, joined}
use Rattle.jim_text.specs.Laws.{IsFree, SpellsAlone, SpellsWithin}
use Rattle.jim_text.proofs.CharLemmas.{at_drop, char_low, run_low}
use Rattle.jim_text.proofs.DigitLemmas.{optional_low}
use Rattle.jim_text.proofs.TextLemmas.{item_low, items_low}
use Rattle.jim_text.proofs.NameLemmas.{component_low, joined_low}

-- the n bytes from i on in one list are those from j on in the other
record Agrees (one : List ℕ) (i : ℕ) (two : List ℕ) (j n : ℕ) : Type 0 where
  same : take n (drop i one) ≡ take n (drop j two)

-- two places are as far from i and from j
record Meets (i j p q : ℕ) : Type 0 where
  along : p + j ≡ q + i
  low : i ≤ p

-- the place that a place from i on meets
meets : (i j p : ℕ) → i ≤ p → Meets i j p ((p - i) + j)
meets i j p low = record { along = omega arith; low = low }

-- some of the first n bytes after a place
inner : (l : List ℕ) (b x m n : ℕ) → x + m ≤ n → take m (drop x (take n (drop b l))) ≡ take m (drop (b + x) l)
inner l b x m n h =
    let sum : n ≡ x + (n - x) = omega arith in
    let less : m ≤ n - x = omega arith in
    ap (λ k. take m (drop x (take k (drop b l)))) sum ∙ ap (take m) (drop-take x (n - x) (drop b l)) ∙ take-take m (n - x) (drop x (drop b l)) less
    ∙ ap (take m) (drop-drop x b l)

-- an exponent ends where it begins, or later
exponent_low : {bytes : List ℕ} {from to : ℕ} → Exponent bytes from to → from ≤ to
exponent_low (none e) = omega (arith, e)
exponent_low {bytes} (power h optional digits) = omega (arith, (optional_low is_sign bytes optional).0, digits.some)

module _ {one two : List ℕ} {i j n : ℕ} (agrees : Agrees one i two j n) where
  -- the same bytes follow two places that meet
  part : {p q : ℕ} (m : ℕ) → Meets i j p q → p + m ≤ i + n → take m (drop p one) ≡ take m (drop q two)
  part {p} {q} m meet high =
      let far : (p - i) + m ≤ n = omega (arith, meet.low) in
      let first : i + (p - i) ≡ p = omega (arith, meet.low) in
      let second : j + (p - i) ≡ q = omega (arith, meet.low, meet.along) in
      ap (λ k. take m (drop k one)) (sym first) ∙ sym (inner one i (p - i) m n far) ∙ ap (λ l. take m (drop (p - i) l)) agrees.same
      ∙ inner two j (p - i) m n far ∙ ap (λ k. take m (drop k two)) second

  -- the same byte stands at two places that meet
  byte : {p q : ℕ} → Meets i j p q → p < i + n → get_or one p 0 ≡ get_or two q 0
  byte {p} {q} meet high =
      sym (at_drop one p) ∙ sym (get_or-take 1 (drop p one) 0 0 (omega arith)) ∙ ap (λ l. get_or l 0 0) (part 1 meet (omega (arith, high)))
      ∙ get_or-take 1 (drop q two) 0 0 (omega arith) ∙ at_drop two q

  -- and it passes the same tests
  tested : (is : ℕ → Bool) {p q : ℕ} → Meets i j p q → p < i + n → IsTrue (is (get_or one p 0)) → IsTrue (is (get_or two q 0))
  tested is meet high h = subst (λ b. IsTrue (is b)) (byte meet high) h

  -- bytes that stand at a place stand where it meets
  has_moved : (text : List ℕ) {p q : ℕ} → Meets i j p q → p + length text ≤ i + n → Has one p text → Has two q text
  has_moved text {p} {q} meet high h =
      let a : (p + length text) - p ≡ length text = omega arith in
      let b : (q + length text) - q ≡ length text = omega arith in
      ap (λ k. take k (drop q two)) b ∙ sym (part (length text) meet high) ∙ ap (λ k. take k (drop p one)) (sym a) ∙ h

  -- so does a character
  char_moved : {a b q r : ℕ} (c : ℕ) → Meets i j a q → Meets i j b r → b ≤ i + n → CharAt one a c b → CharAt two q c r
  char_moved {a} {b} {q} {r} c meet end high here =
      let m : ℕ = length (encode_utf8 c) in
      let long : a + m ≡ b = omega (arith, here.ends, length-encode c) in
      let next : q + m ≡ r = omega (arith, long, meet.along, end.along) in
      let front : take m (drop q two) ≡ encode_utf8 c =
      sym (part m meet (omega (arith, long, high))) ∙ ap (take m) here.spelled ∙ take-append_seam (encode_utf8 c) (drop b one) in
      record {
        scalar = here.scalar;
        ends = omega (arith, here.ends, meet.along, end.along);
        spelled = sym (take-append-drop m (drop q two)) ∙ (λ k. front k ++ (drop-drop m q two ∙ ap (λ x. drop x two) next) k);
      }

  -- and a run of them
  run_moved : {is : ℕ → Bool} {a b q r : ℕ} → Meets i j a q → Meets i j b r → b ≤ i + n → Run is one a b → Run is two q r
  run_moved meet end high (ends e) = ends (omega (arith, e, meet.along, end.along))
  run_moved meet end high (goes {c = c} {next = next} here passes rest) =
      let at : Meets i j next ((next - i) + j) = meets i j next (omega (arith, meet.low, char_low here)) in
      goes (char_moved c meet at (omega (arith, high, run_low rest)) here) passes (run_moved at end high rest)

  -- digits
  digits_moved : {is : ℕ → Bool} {most a b q r : ℕ} → Meets i j a q → Meets i j b r → b ≤ i + n → Digits is most one a b → Digits is most two q r
  digits_moved {is} {most} {a} {b} {q} {r} meet end high digits = record {
    some = omega (arith, digits.some, meet.along, end.along);
    few = omega (arith, digits.few, meet.along, end.along);
    each = λ k from to.
        let at : Meets i j ((k - j) + i) k = record { along = omega (arith, from, meet.along, meet.low); low = omega arith } in
        tested is at (omega (arith, from, to, meet.along, end.along, end.low, high))
        (digits.each ((k - j) + i) (omega (arith, from, meet.along, meet.low)) (omega (arith, from, to, meet.along, meet.low, end.along)));
  }

  -- a byte that may be missing
  optional_moved : (is : ℕ → Bool) {a b q r : ℕ} → Meets i j a q → Meets i j b r → b ≤ i + n → Optional is one a b → Optional is two q r
  optional_moved is meet end high (inl e) = inl (omega (arith, e, meet.along, end.along))
  optional_moved is meet end high (inr (e, h)) = inr (omega (arith, e, meet.along, end.along), tested is meet (omega (arith, e, high)) h)

  -- a byte that is known
  known : {v p q : ℕ} → Meets i j p q → p < i + n → get_or one p 0 ≡ v → get_or two q 0 ≡ v
  known meet high e = sym (byte meet high) ∙ e

  -- places a little further on meet too
  later : {p q : ℕ} (k : ℕ) → Meets i j p q → Meets i j (p + k) (q + k)
  later k meet = record { along = omega (arith, meet.along); low = omega (arith, meet.low) }

  -- a place further on, and the one that it meets
  far : {p q : ℕ} (k : ℕ) → Meets i j p q → p ≤ k → Meets i j k ((k - i) + j)
  far k meet less = meets i j k (omega (arith, meet.low, less))

  -- an exponent
  exponent_moved : {a b q r : ℕ} → Meets i j a q → Meets i j b r → b ≤ i + n → Exponent one a b → Exponent two q r
  exponent_moved meet end high (none e) = none (omega (arith, e, meet.along, end.along))
  exponent_moved {a} meet end high (power {sign = sign} h optional digits) =
      let low : (a + 1 ≤ sign) × (sign ≤ a + 1 + 1) = optional_low is_sign one optional in
      let at : Meets i j sign ((sign - i) + j) = far sign meet (omega (arith, low)) in
      power (tested is_exponent meet (omega (arith, low, digits.some, high)) h) (optional_moved is_sign (later 1 meet) at (omega (arith, digits.some, high)) optional)
      (digits_moved at end high digits)

  -- a number
  number_moved : {a b q r : ℕ} → Meets i j a q → Meets i j b r → b ≤ i + n → IsNumber one a b → IsNumber two q r
  number_moved meet stop high (integer {end = end} digits optional) =
      let at : Meets i j end ((end - i) + j) = far end meet (omega (arith, digits.some)) in
      integer (digits_moved meet at (omega (arith, (optional_low is_long one optional).0, high)) digits) (optional_moved is_long at stop high optional)
  number_moved {a} meet stop high (hexadecimal {end = end} zero x digits optional) =
      let low : end ≤ _ = (optional_low is_long one optional).0 in
      let at : Meets i j end ((end - i) + j) = far end meet (omega (arith, digits.some)) in
      hexadecimal (known meet (omega (arith, digits.some, low, high)) zero) (known (later 1 meet) (omega (arith, digits.some, low, high)) x)
      (digits_moved (later 2 meet) at (omega (arith, low, high)) digits) (optional_moved is_long at stop high optional)
  number_moved meet stop high (decimal {dot = dot} {fraction = fraction} {end = end} whole point digits exponent optional) =
      let low = (optional_low is_float one optional).0 in
      let power_low = exponent_low exponent in
      let at_dot : Meets i j dot ((dot - i) + j) = far dot meet (omega (arith, whole.some)) in
      let at_fraction : Meets i j fraction ((fraction - i) + j) = far fraction at_dot (omega (arith, digits.some)) in
      let at_end : Meets i j end ((end - i) + j) = far end at_fraction power_low in
      decimal (digits_moved meet at_dot (omega (arith, digits.some, power_low, low, high)) whole) (known at_dot (omega (arith, digits.some, power_low, low, high)) point)
      (digits_moved (later 1 at_dot) at_fraction (omega (arith, power_low, low, high)) digits) (exponent_moved at_fraction at_end (omega (arith, low, high)) exponent)
      (optional_moved is_float at_end stop high optional)
  number_moved meet stop high (infinity h optional) =
      infinity (has_moved (codes "#Infinity") meet (omega (arith, (optional_low is_float one optional).0, high)) h) (optional_moved is_float (later 9 meet) stop high optional)
  number_moved meet stop high (minus_infinity h optional) =
      minus_infinity (has_moved (codes "#-Infinity") meet (omega (arith, (optional_low is_float one optional).0, high)) h) (optional_moved is_float (later 10 meet) stop high optional)
  number_moved meet stop high (not_a_number h optional) =
      not_a_number (has_moved (codes "#NaN") meet (omega (arith, (optional_low is_float one optional).0, high)) h) (optional_moved is_float (later 4 meet) stop high optional)

  -- an item of a text
  item_moved : {a b q r : ℕ} → Meets i j a q → Meets i j b r → b ≤ i + n → Item one a b → Item two q r
  item_moved meet end high (itself {c = c} here passes) = itself (char_moved c meet end high here) passes
  item_moved meet end high (escape {c = c} slash here passes) =
      escape (known meet (omega (arith, char_low here, high)) slash) (char_moved c (later 1 meet) end high here) passes

  -- any number of them
  items_moved : {a b q r : ℕ} → Meets i j a q → Meets i j b r → b ≤ i + n → Items one a b → Items two q r
  items_moved meet end high (no_items e) = no_items (omega (arith, e, meet.along, end.along))
  items_moved meet end high (more_items {next = next} first rest) =
      let at : Meets i j next ((next - i) + j) = far next meet (omega (arith, item_low first)) in
      more_items (item_moved meet at (omega (arith, items_low rest, high)) first) (items_moved at end high rest)

  -- a text
  text_moved : {a b q r : ℕ} → Meets i j a q → Meets i j b r → b ≤ i + n → IsText one a b → IsText two q r
  text_moved {a} meet end high text =
      let low = items_low text.items in
      let at : Meets i j text.close ((text.close - i) + j) = far text.close meet (omega (arith, low)) in
      record {
        close = (text.close - i) + j;
        opened = known meet (omega (arith, low, text.ends, high)) text.opened;
        items = items_moved (later 1 meet) at (omega (arith, text.ends, high)) text.items;
        closed = known at (omega (arith, text.ends, high)) text.closed;
        ends = omega (arith, text.ends, at.along, at.low, end.along);
      }

  -- a word with an at sign
  at_moved : {a b q r : ℕ} → Meets i j a q → Meets i j b r → b ≤ i + n → IsAt one a b → IsAt two q r
  at_moved meet end high (this h e) = this (has_moved (codes "@this") meet (omega (arith, e, high)) h) (omega (arith, e, meet.along, end.along))
  at_moved meet end high (caught h e) = caught (has_moved (codes "@caughtexception") meet (omega (arith, e, high)) h) (omega (arith, e, meet.along, end.along))
  at_moved meet end high (parameter h digits) =
      parameter (has_moved (codes "@parameter") meet (omega (arith, digits.some, high)) h) (digits_moved (later 10 meet) end high digits)

  -- a mark, where the next byte lets one byte be a mark
  mark_moved : {a b q r : ℕ} → Meets i j a q → Meets i j b r → b ≤ i + n → (b ≡ a + 1 → IsTrue (is_bare (get_or two q 0) (get_or two (q + 1) 0)))
      → IsMark one a b → IsMark two q r
  mark_moved meet end high free (single e h bare) = single (omega (arith, e, meet.along, end.along)) (tested is_single meet (omega (arith, e, high)) h) (free e)
  mark_moved meet end high free (double e h) =
      let first = byte meet (omega (arith, e, high)) in
      let second = byte (later 1 meet) (omega (arith, e, high)) in
      double (omega (arith, e, meet.along, end.along)) (rw (← first, ← second) h)
  mark_moved meet end high free (triple e h) =
      let first = byte meet (omega (arith, e, high)) in
      let second = byte (later 1 meet) (omega (arith, e, high)) in
      let third = byte (later 2 meet) (omega (arith, e, high)) in
      triple (omega (arith, e, meet.along, end.along)) (rw (← first, ← second, ← third) h)

  -- a component
  component_moved : {a b q r : ℕ} → Meets i j a q → Meets i j b r → b ≤ i + n → Component one a b → Component two q r
  component_moved meet end high (plain {c = c} {next = next} here starts run) =
      let at : Meets i j next ((next - i) + j) = far next meet (omega (arith, char_low here)) in
      plain (char_moved c meet at (omega (arith, run_low run, high)) here) starts (run_moved at end high run)
  component_moved meet end high (quoted {close = close} opened some run shut e) =
      let at : Meets i j close ((close - i) + j) = far close meet (omega (arith, some)) in
      quoted (known meet (omega (arith, some, e, high)) opened) (omega (arith, some, meet.along, at.along)) (run_moved (later 1 meet) at (omega (arith, e, high)) run)
      (known at (omega (arith, e, high)) shut) (omega (arith, e, at.along, end.along))

  -- components joined by dots
  joined_moved : {a b q r : ℕ} → Meets i j a q → Meets i j b r → b ≤ i + n → Joined one a b → Joined two q r
  joined_moved meet end high (last component) = last (component_moved meet end high component)
  joined_moved meet end high (more {dot = dot} component point rest) =
      let at : Meets i j dot ((dot - i) + j) = far dot meet (omega (arith, component_low component)) in
      more (component_moved meet at (omega (arith, joined_low rest, high)) component) (known at (omega (arith, joined_low rest, high)) point)
      (joined_moved (later 1 at) end high rest)

  -- a name
  name_moved : {a b q r : ℕ} → Meets i j a q → Meets i j b r → b ≤ i + n → IsName one a b → IsName two q r
  name_moved meet end high (init h e) = init (has_moved (codes "<init>") meet (omega (arith, e, high)) h) (omega (arith, e, meet.along, end.along))
  name_moved meet end high (clinit h e) = clinit (has_moved (codes "<clinit>") meet (omega (arith, e, high)) h) (omega (arith, e, meet.along, end.along))
  name_moved meet end high (joined h) = joined (joined_moved meet end high h)

  -- the bytes between two places are those between the places that they meet
  range_moved : {a b q r : ℕ} → Meets i j a q → Meets i j b r → a ≤ b → b ≤ i + n → slice_range one a b ≡ slice_range two q r
  range_moved {a} {b} {q} {r} meet end low high =
      let long : b - a ≡ r - q = omega (arith, meet.along, end.along, low) in
      part (b - a) meet (omega (arith, low, high)) ∙ ap (λ k. take k (drop q two)) long

  -- each kind of token
  spells_moved : {a b q r : ℕ} (kind : Kind) → Meets i j a q → Meets i j b r → a ≤ b → b ≤ i + n
      → (kind ≡ Mark → b ≡ a + 1 → IsTrue (is_bare (get_or two q 0) (get_or two (q + 1) 0))) → Spells kind one a b → Spells kind two q r
  spells_moved Word meet end low high free h = subst (λ text. IsTrue (is_reserved text)) (range_moved meet end low high) h
  spells_moved Name meet end low high free (name, other) = (name_moved meet end high name, subst (λ text. IsFalse (is_reserved text)) (range_moved meet end low high) other)
  spells_moved Number meet end low high free h = number_moved meet end high h
  spells_moved Text meet end low high free h = text_moved meet end high h
  spells_moved At meet end low high free h = at_moved meet end high h
  spells_moved Mark meet end low high free h = mark_moved meet end high (free refl) h

-- the last byte of a list is followed by none
bare_last : (text : List ℕ) → length text ≤ 1 → is_bare (get_or text 0 0) (get_or text 1 0) ≡ true
bare_last text short = by (get_or text 0 0 == 47)
  where
    past : get_or text 1 0 ≡ 0
    past = get_or_past text 1 0 short

    by : (t : Bool) → not (t && ((get_or text 1 0 == 47) || (get_or text 1 0 == 42))) ≡ true
    by true = rw past refl
    by false = refl

-- how many bytes stand between two places
length-range : (bytes : List ℕ) (from to : ℕ) → from ≤ to → to ≤ length bytes → length (slice_range bytes from to) ≡ to - from
length-range bytes from to low high = omega (arith, length-take (to - from) (drop from bytes), length-drop from bytes, low, high)

-- those bytes begin with themselves
range_twice : (bytes : List ℕ) (from to : ℕ) → take (to - from) (drop 0 (slice_range bytes from to)) ≡ take (to - from) (drop from bytes)
range_twice bytes from to = take-take (to - from) (to - from) (drop from bytes) (omega arith)

-- what a text has spelled is spelled by itself
pub spells_alone : SpellsAlone
spells_alone kind bytes from to low high h =
    let long = length-range bytes from to low high in
    let text : List ℕ = slice_range bytes from to in
    let agrees : Agrees bytes from text 0 (to - from) = record { same = sym (range_twice bytes from to) } in
    let meet : Meets from 0 from 0 = record { along = omega arith; low = omega arith } in
    let end : Meets from 0 to (length text) = record { along = omega (arith, long, low); low = low } in
    spells_moved agrees kind meet end low (omega (arith, low)) (λ _ e. bare_last text (omega (arith, long, e))) h

-- what is spelled by itself is spelled in a text
pub spells_within : SpellsWithin
spells_within kind bytes from to low high free h =
    let long = length-range bytes from to low high in
    let text : List ℕ = slice_range bytes from to in
    let agrees : Agrees text 0 bytes from (to - from) = record { same = range_twice bytes from to } in
    let meet : Meets 0 from 0 from = record { along = omega arith; low = omega arith } in
    let end : Meets 0 from (length text) to = record { along = omega (arith, long, low); low = omega arith } in
    spells_moved agrees kind meet end (omega arith) (omega (arith, long)) (λ k _. subst (λ x. IsFree x bytes from) k free) h
