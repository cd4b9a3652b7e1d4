-- Characters at a place, and runs of them.
use Rattle.std.proofs.Common.{◌≡◌, ℕ, zero, suc, ◌+◌, ◌-◌, ◌<◌, ◌≤◌, min, Bool, false, List, [], ◌∷◌, ◌++◌, length, take, drop, get_or, refl, sym, ap, ◌∙◌, subst, arith, true≢false, IsTrue, MatchOption, encode_utf8, append_assoc, add-zero, add-one}
use Rattle.std.specs.Char.{IsScalar, len_utf8}
use Rattle.std.specs.Str.{StartsWithNoChar, IsUtf8, IsValidUpTo}
use Rattle.std.specs.Prelude.{Option, None, Some}
use Rattle.std.proofs.lemmas.Str.{encode_same, byte_from_char, char_from_byte, length-encode, len_utf8_bounds, len_utf8_ascii, encode_ascii, drop_past_char, IsUtf8-encode}
use Rattle.std.proofs.lemmas.List.{get_or-drop, length-append, length-drop, length-take, take-append-drop}
use Rattle.std.proofs.Math.Seq.{drop-cons, take-append_seam, take-append-add}
use Rattle.jim_text.specs.Chars.{Leads, CharAt, NoCharAt, Run, Stops}
use Rattle.jim_text.specs.Chars.Run.{ends, goes}

-- the first byte of what is left at a place
pub at_drop : (bytes : List ℕ) (n : ℕ) → get_or (drop n bytes) 0 0 ≡ get_or bytes n 0
at_drop bytes n = get_or-drop n bytes 0 0 ∙ ap (λ k. get_or bytes k 0) (add-zero n)

module _ {bytes : List ℕ} {from c to : ℕ} (here : CharAt bytes from c to) where
  -- what is left at a character, and behind it
  lengths : length bytes - from ≡ len_utf8 c + (length bytes - to)
  lengths = sym (length-drop from bytes) ∙ ap length here.spelled ∙ length-append (encode_utf8 c) (drop to bytes)
      ∙ ap (λ n. n + length (drop to bytes)) (length-encode c) ∙ ap (λ n. len_utf8 c + n) (length-drop to bytes)

  -- a character has a byte at least
  pub char_low : from < to
  char_low = omega (arith, here.ends, (len_utf8_bounds c).0)

  -- a character ends in the bytes
  pub char_within : to ≤ length bytes
  char_within = omega (arith, here.ends, (len_utf8_bounds c).0, lengths)

  -- an ASCII character is its byte
  pub char_byte : c < 128 → get_or bytes from 0 ≡ c
  char_byte small = sym (at_drop bytes from) ∙ byte_from_char (drop from bytes) (drop to bytes) c here.spelled small

  -- an ASCII byte is its character
  pub byte_char : get_or bytes from 0 < 128 → c ≡ get_or bytes from 0
  byte_char small =
      let same : get_or (drop from bytes) 0 0 ≡ get_or bytes from 0 = at_drop bytes from in
      let low : get_or (drop from bytes) 0 0 < 128 = omega (arith, same) in
      let some : 0 < length (drop from bytes) = omega (arith, length-drop from bytes, char_low, char_within) in
      char_from_byte (drop from bytes) (drop to bytes) c here.spelled low some ∙ same

-- one character stands at a place, and it ends at one place
pub char_same : {bytes : List ℕ} {from c to d end : ℕ} → CharAt bytes from c to → CharAt bytes from d end → (c ≡ d) × (to ≡ end)
char_same {bytes} {from} {c} {to} {d} {end} a b =
    let same = encode_same c d (drop to bytes) (drop end bytes) (sym a.spelled ∙ b.spelled) in
    (same.0, a.ends ∙ ap (λ x. from + len_utf8 x) same.0 ∙ sym b.ends)

-- no character begins where no byte is left
pub nil_starts : StartsWithNoChar []
nil_starts c rest scalar e = absurd (omega (arith, ap length e, length-append (encode_utf8 c) rest, length-encode c, (len_utf8_bounds c).0))

-- bytes whose longest front of text is empty
pub empty_starts : (bytes : List ℕ) (n : ℕ) → IsValidUpTo bytes n → take n bytes ≡ [] → StartsWithNoChar bytes
empty_starts bytes n valid e c rest scalar s =
    let zero_long : n ≡ 0 = omega (arith, ap length e, length-take n bytes, valid.short) in
    let front : take (length (encode_utf8 c)) bytes ≡ encode_utf8 c = ap (take (length (encode_utf8 c))) s ∙ take-append_seam (encode_utf8 c) rest in
    valid.longest (length (encode_utf8 c)) (omega (arith, zero_long, length-encode c, (len_utf8_bounds c).0))
    (subst IsUtf8 (sym front) (IsUtf8-encode c scalar))

-- what leads a front of the bytes leads the bytes
pub leads_front : (bytes : List ℕ) (n c : ℕ) → Leads (take n bytes) c → Leads bytes c
leads_front bytes n c (scalar, (rest, e)) = (scalar, (rest ++ drop n bytes, sym (take-append-drop n bytes) ∙ ap (λ s. s ++ drop n bytes) e ∙ append_assoc (encode_utf8 c) rest (drop n bytes)))

-- what the first character of a text says of bytes that are the text
pub head_whole : (r : Option ℕ) (text bytes : List ℕ) → text ≡ bytes → MatchOption r (text ≡ []) (Leads text) → MatchOption r (StartsWithNoChar bytes) (Leads bytes)
head_whole None text bytes e h = subst StartsWithNoChar (sym h ∙ e) nil_starts
head_whole (Some c) text bytes e h = subst (λ s. Leads s c) e h

-- what the first character of the longest front of text says of the bytes
pub head_front : (r : Option ℕ) (text bytes : List ℕ) (n : ℕ) → text ≡ take n bytes → IsValidUpTo bytes n → MatchOption r (text ≡ []) (Leads text)
    → MatchOption r (StartsWithNoChar bytes) (Leads bytes)
head_front None text bytes n e valid h = empty_starts bytes n valid (sym e ∙ h)
head_front (Some c) text bytes n e valid h = leads_front bytes n c (subst (λ s. Leads s c) e h)

-- the character with which the bytes from a place on begin stands there
pub leads_char : (bytes : List ℕ) (at c : ℕ) → Leads (drop at bytes) c → CharAt bytes at c (at + len_utf8 c)
leads_char bytes at c (scalar, (rest, e)) = record {
  scalar = scalar;
  ends = refl;
  spelled = e ∙ ap (λ s. encode_utf8 c ++ s) (sym (drop_past_char bytes rest at c e));
}

-- the first four bytes tell the character
pub wide_char : (r : Option ℕ) (bytes : List ℕ) (at end : ℕ) → end ≡ min (length bytes) (at + 4) → at ≤ length bytes
    → MatchOption r (StartsWithNoChar (take (end - at) (drop at bytes))) (Leads (take (end - at) (drop at bytes)))
    → MatchOption r (NoCharAt bytes at) (λ c. CharAt bytes at c (at + len_utf8 c))
wide_char None bytes at end e within h = λ c to here.
    let n : ℕ = (end - at) - length (encode_utf8 c) in
    let sum : end - at ≡ length (encode_utf8 c) + n =
    omega (arith, e, char_within here, here.ends, length-encode c, (len_utf8_bounds c).1) in
    h c (take n (drop to bytes)) here.scalar
    (ap (λ s. take (end - at) s) here.spelled ∙ ap (λ k. take k (encode_utf8 c ++ drop to bytes)) sum ∙ take-append-add (encode_utf8 c) (drop to bytes) n)
wide_char (Some c) bytes at end e within h = leads_char bytes at c (leads_front (drop at bytes) (end - at) c h)

-- an ASCII byte is a character
pub ascii_char : (bytes : List ℕ) (at : ℕ) → at < length bytes → get_or bytes at 0 < 128 → CharAt bytes at (get_or bytes at 0) (at + 1)
ascii_char bytes at within small = record {
  scalar = scalar_small (get_or bytes at 0) small;
  ends = sym (ap (λ n. at + n) (len_utf8_ascii (get_or bytes at 0) small));
  spelled = rw (add-one, drop-cons bytes at 0 within) (ap (λ s. s ++ drop (suc at) bytes) (sym (encode_ascii (get_or bytes at 0) small)));
}
  where
    scalar_small : (c : ℕ) → c < 128 → IsScalar c
    scalar_small c h = grind arith

-- a run leads past each place of another run that could go on
pub run_on : {p : ℕ → Bool} {bytes : List ℕ} {from middle to : ℕ} → Run p bytes from middle → Run p bytes from to → Stops p bytes to → Run p bytes middle to
run_on {p} {bytes} {from} {middle} {to} (ends e) whole stops = subst (λ x. Run p bytes x to) e whole
run_on {p} {bytes} {from} {middle} {to} (goes {c = c} {next = next} here passes more) (ends e) stops =
    absurd (true≢false (sym passes ∙ stops c next (subst (λ x. CharAt bytes x c next) e here)))
run_on {p} {bytes} {from} {middle} {to} (goes here passes more) (goes there also whole) stops =
    run_on more (subst (λ x. Run p bytes x to) (sym (char_same here there).1) whole) stops

-- a run goes on by one more character that passes
pub run_snoc : {p : ℕ → Bool} {bytes : List ℕ} {from middle c to : ℕ} → Run p bytes from middle → CharAt bytes middle c to → IsTrue (p c) → Run p bytes from to
run_snoc {p} {bytes} {from} {middle} {c} {to} (ends e) here passes = goes (subst (λ x. CharAt bytes x c to) (sym e) here) passes (ends refl)
run_snoc (goes first also more) here passes = goes first also (run_snoc more here passes)

-- runs that meet are one
pub run_join : {p : ℕ → Bool} {bytes : List ℕ} {from middle to : ℕ} → Run p bytes from middle → Run p bytes middle to → Run p bytes from to
run_join {p} {bytes} {from} {middle} {to} (ends e) more = subst (λ x. Run p bytes x to) (sym e) more
run_join (goes first also rest) more = goes first also (run_join rest more)

-- a run ends where it begins, or later
pub run_low : {p : ℕ → Bool} {bytes : List ℕ} {from to : ℕ} → Run p bytes from to → from ≤ to
run_low (ends e) = omega (arith, e)
run_low (goes here passes more) = omega (arith, char_low here, run_low more)

-- where a run is shorter than it could be, a character that passes goes on
pub run_shorter : {p : ℕ → Bool} {bytes : List ℕ} {from to : ℕ} → Run p bytes from to → from < to → (c : ℕ) × ((next : ℕ) × (CharAt bytes from c next × IsTrue (p c)))
run_shorter (ends e) h = absurd (omega (arith, e))
run_shorter (goes {c = c} {next = next} here passes more) h = (c, (next, (here, passes)))

-- a run ends in the bytes
pub run_within : {p : ℕ → Bool} {bytes : List ℕ} {from to : ℕ} → Run p bytes from to → from ≤ length bytes → to ≤ length bytes
run_within (ends e) h = omega (arith, e)
run_within (goes here passes more) h = run_within more (char_within here)

-- a run that cannot go on has one end
pub run_same : {p : ℕ → Bool} {bytes : List ℕ} {from middle to : ℕ} → Run p bytes from middle → Stops p bytes middle → Run p bytes from to → Stops p bytes to → middle ≡ to
run_same one here two there = omega (arith, run_low (run_on one two there), run_low (run_on two one here))

-- no run goes on at the end of the bytes
pub end_stops : (p : ℕ → Bool) (bytes : List ℕ) (at : ℕ) → length bytes ≤ at → Stops p bytes at
end_stops p bytes at h c next here = absurd (omega (arith, char_low here, char_within here))

-- an ASCII byte whose character fails the test
pub byte_stops : (p : ℕ → Bool) (bytes : List ℕ) (at b : ℕ) → get_or bytes at 0 ≡ b → b < 128 → p b ≡ false → Stops p bytes at
byte_stops p bytes at b e small fails c next here = ap p (byte_char here (omega (arith, e)) ∙ e) ∙ fails

-- a byte other than 0 stands before the end
pub byte_before : (bytes : List ℕ) (at b : ℕ) → get_or bytes at 0 ≡ b → 0 < b → at < length bytes
byte_before [] at b e some = absurd (omega (arith, e))
byte_before (x ∷ bytes) zero b e some = omega arith
byte_before (x ∷ bytes) (suc at) b e some = omega (arith, byte_before bytes at b e some)
