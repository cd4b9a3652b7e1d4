-- The reserved words are names.
use Rattle.std.proofs.Common.{◌≡◌, ℕ, zero, suc, ◌+◌, ◌-◌, ◌<◌, ◌≤◌, Bool, true, nat_le, ◌&&◌, ◌||◌, ◌==◌, List, [], ◌∷◌, length, take, drop, get_or, refl, sym, ap, ◌∙◌, subst, arith}
use Rattle.std.specs.Prelude.{slice_range}
use Rattle.std.specs.List.{list_all}
use Rattle.std.specs.Char.{is_ascii_alphabetic, is_ascii_alphanumeric}
use Rattle.std.proofs.lemmas.List.{length-take, length-drop}
use Rattle.unicode_ident.proofs.IdentLemmas.{is_xid_start-ascii, is_xid_continue-ascii}
use Rattle.jim_text.specs.Chars.{Run, Has}
use Rattle.jim_text.specs.Chars.Run.{ends, goes}
use Rattle.jim_text.specs.Words.{words, is_reserved}
use Rattle.jim_text.specs.Spelling.{is_start, is_continue, IsName}
use Rattle.jim_text.specs.Spelling.Component.{plain}
use Rattle.jim_text.specs.Spelling.Joined.{last}
use Rattle.jim_text.specs.Spelling.IsName.{joined}
use Rattle.jim_text.proofs.CharLemmas.{ascii_char}
use Rattle.jim_text.proofs.DigitLemmas.{both, has_byte}
use Rattle.jim_text.proofs.TableLemmas.{any_entry}

-- a small letter of ASCII
abbrev is_lower : ℕ → Bool
is_lower b = nat_le 97 b && nat_le b 122

-- a small letter, and small letters and underlines
abbrev is_simple : List ℕ → Bool
is_simple text = is_lower (get_or text 0 0) && list_all (λ b. is_lower b || (b == 95)) text

-- each reserved word is one
reserved_simple : (text : List ℕ) → is_reserved text ≡ true → is_simple text ≡ true
unfolding words
reserved_simple text h = any_entry is_simple text words refl h

-- a test of all bytes holds of each
all_at : (q : ℕ → Bool) (xs : List ℕ) → list_all q xs ≡ true → (k : ℕ) → k < length xs → q (get_or xs k 0) ≡ true
all_at q [] h k less = absurd (omega arith)
all_at q (x ∷ xs) h zero less = (both (q x) (list_all q xs) h).0
all_at q (x ∷ xs) h (suc k) less = all_at q xs (both (q x) (list_all q xs) h).1 k (omega arith)

-- a small letter begins a name
lower_start : (b : ℕ) → is_lower b ≡ true → is_start b ≡ true
lower_start b h =
    let small : b < 128 = grind arith in
    let letter : is_ascii_alphabetic b ≡ true = grind arith in
    rw (is_xid_start-ascii b small, letter) refl

-- a small letter and an underline go on a name
simple_continue : (b : ℕ) → is_lower b || (b == 95) ≡ true → (b < 128) × (is_continue b ≡ true)
simple_continue b h =
    let small : b < 128 = grind arith in
    let letter : is_ascii_alphanumeric b || (b == 95) ≡ true = grind arith in
    (small, rw (is_xid_continue-ascii b small, letter) refl)

-- bytes that go on with a name one by one
run_bytes : (bytes : List ℕ) (n from : ℕ) → from + n ≤ length bytes
    → ((k : ℕ) → from ≤ k → k < from + n → (get_or bytes k 0 < 128) × (is_continue (get_or bytes k 0) ≡ true)) → Run is_continue bytes from (from + n)
run_bytes bytes zero from within each = ends (omega arith)
run_bytes bytes (suc n) from within each =
    let first = each from (omega arith) (omega arith) in
    let rest : Run is_continue bytes (from + 1) ((from + 1) + n) = run_bytes bytes n (from + 1) (omega arith) (λ k low high. each k (omega (arith, low)) (omega (arith, high))) in
    let same : (from + 1) + n ≡ from + suc n = omega arith in
    goes (ascii_char bytes from (omega arith) first.0) first.1 (subst (λ m. Run is_continue bytes (from + 1) m) same rest)

-- each reserved word is spelled as a name
pub word_name : (bytes : List ℕ) (from to : ℕ) → from < to → to ≤ length bytes → is_reserved (slice_range bytes from to) ≡ true → IsName bytes from to
word_name bytes from to some within h =
    let simple = both (is_lower (get_or text 0 0)) (list_all (λ b. is_lower b || (b == 95)) text) (reserved_simple text h) in
    let head : is_lower (get_or bytes from 0) ≡ true = ap is_lower (first_byte) ∙ simple.0 in
    let n : ℕ = to - (from + 1) in
    let far : (from + 1) + n ≡ to = omega arith in
    let small : get_or bytes from 0 < 128 = (simple_continue (get_or bytes from 0) (lower_simple (get_or bytes from 0) head)).0 in
    let run : Run is_continue bytes (from + 1) ((from + 1) + n) = run_bytes bytes n (from + 1) (omega (arith, far)) (λ k low high. each simple.1 k (omega (arith, low)) (omega (arith, high, far))) in
    joined (last (plain (ascii_char bytes from (omega arith) small) (lower_start (get_or bytes from 0) head) (subst (λ m. Run is_continue bytes (from + 1) m) far run)))
  where
    text : List ℕ
    text = take (to - from) (drop from bytes)

    long : length text ≡ to - from
    long = omega (arith, length-take (to - from) (drop from bytes), length-drop from bytes)

    whole : Has bytes from text
    whole = ap (λ n. take n (drop from bytes)) (omega (arith, long))

    byte : (j : ℕ) → j < to - from → get_or bytes (from + j) 0 ≡ get_or text j 0
    byte j less = has_byte bytes from text whole j (omega (arith, long, less))

    first_byte : get_or bytes from 0 ≡ get_or text 0 0
    first_byte = ap (λ m. get_or bytes m 0) (omega arith) ∙ byte 0 (omega arith)

    lower_simple : (b : ℕ) → is_lower b ≡ true → is_lower b || (b == 95) ≡ true
    lower_simple b l = rw l refl

    each : list_all (λ b. is_lower b || (b == 95)) text ≡ true → (k : ℕ) → from ≤ k → k < to → (get_or bytes k 0 < 128) × (is_continue (get_or bytes k 0) ≡ true)
    each all k low high =
        let place : from + (k - from) ≡ k = omega (arith, low) in
        let passes : is_lower (get_or text (k - from) 0) || (get_or text (k - from) 0 == 95) ≡ true = all_at (λ b. is_lower b || (b == 95)) text all (k - from) (omega (arith, long, low, high)) in
        let same : get_or bytes k 0 ≡ get_or text (k - from) 0 = ap (λ m. get_or bytes m 0) (sym place) ∙ byte (k - from) (omega (arith, low, high)) in
        simple_continue (get_or bytes k 0) (ap (λ b. is_lower b || (b == 95)) same ∙ passes)
