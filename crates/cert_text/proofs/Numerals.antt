-- Numbers as words.
use Rattle.std.proofs.Common.{◌≡◌, ◌↔◌, ℕ, zero, suc, ◌<◌, ◌^◌, List, [], ◌∷◌, All, Result, Ok, Err, Some, length, get_or, sym, ap, subst, ◌∙◌, inl, inr, arith, lit<}
use Rattle.std.specs.Char.{IsAsciiDigit}
use Rattle.std.specs.Fmt.{decimal}
use Rattle.std.specs.Result.{OkIff, result_ok}
use Rattle.std.specs.Str.{IsUtf8}
use Rattle.std.specs.Str.Parse.{AllDigits, ParsesUnsigned, digits_value}
use Rattle.std.proofs.lemmas.Bool.{cases_lt}
use Rattle.std.proofs.lemmas.Fmt.{decimal-digits_value, decimal_digit, decimal_injective, decimal_is_IsNumeral, decimal_nonempty, first_decimal, parse-decimal}
use Rattle.std.proofs.lemmas.List.Elements.{All-cons, All-nil, All-head, All-tail}
use Rattle.std.proofs.lemmas.Str.{IsUtf8-from_ascii, digit_value_digit}
use Rattle.std.proofs.lemmas.Str.Parse.{digit_from_value, numerals_by_value, parse_digits, tells_digits}
use Rattle.cert_text.specs.Words.{IsPlain, SpellsNumber}
use Rattle.cert_text.proofs.Marks.{IsAbove}

digits_all : (ds : List ℕ) → AllDigits 10 ds → All IsAsciiDigit ds
digits_all [] d = All-nil IsAsciiDigit
digits_all (c ∷ cs) d = All-cons IsAsciiDigit c cs (digit_from_value c d.0) (digits_all cs d.1)

all_digits : (ds : List ℕ) → All IsAsciiDigit ds → AllDigits 10 ds
all_digits [] d = tt
all_digits (c ∷ cs) d = let k = digit_value_digit c (All-head IsAsciiDigit c cs d) in let r = All-head IsAsciiDigit c cs d in (omega (arith, k, r), all_digits cs (All-tail IsAsciiDigit c cs d))

digits_above : (ds : List ℕ) → AllDigits 10 ds → IsAbove 47 ds
digits_above [] d = tt
digits_above (c ∷ cs) d = let k = digit_from_value c d.0 in (omega (arith, k), digits_above cs d.1)

-- the digits of a number stand above the marks
pub decimal_above : (n : ℕ) → n < 2 ^ 32 → IsAbove 47 (decimal n)
decimal_above n small = digits_above (decimal n) (decimal_is_IsNumeral n (omega arith)).0.1

-- what a number is printed as is plain
pub plain_decimal : (n : ℕ) → n < 2 ^ 32 → IsPlain (decimal n)
plain_decimal n small = record {
  some = decimal_nonempty n (omega arith);
  digits = digits_all (decimal n) (decimal_is_IsNumeral n (omega arith)).0.1;
  lead = λ e. elim (cases_lt 0 n) [
    | inl some ↦ let first = first_decimal n some (omega arith) in absurd (omega (arith, e, first))
    | inr none ↦ ap length (decimal_digit n (omega arith))
  ];
}

-- a plain word is what its number is printed as
pub plain_parses : (E : Type 0) (word : List ℕ) (n : ℕ) → IsPlain word → ParsesUnsigned {E = E} 32 10 word (Ok n) → SpellsNumber word n
plain_parses E word n plain parses =
    let own = numerals_by_value (AllDigits 10) tells_digits in
    let digits = all_digits word plain.digits in
    let read : OkIff {E = E} (Ok n) ((0 < length word) × (digits_value 10 word < 2 ^ 32)) (digits_value 10 word) = parse_digits own {E = E} 32 word (Ok n) parses digits in
    let text = decimal-digits_value own word digits plain.some plain.lead (omega (arith, read.0.1)) in
    (sym text ∙ ap decimal (sym read.1), omega (arith, read.0.1, read.1))

-- a word is one number
pub number_one : (word : List ℕ) (m n : ℕ) → SpellsNumber word m → SpellsNumber word n → m ≡ n
number_one word m n p q = decimal_injective m n (omega (arith, p.1)) (omega (arith, q.1)) (sym p.0 ∙ q.0)

-- a plain word is text
pub plain_utf8 : (word : List ℕ) → IsPlain word → IsUtf8 word
plain_utf8 word plain = IsUtf8-from_ascii word (λ i. below word i plain.digits)
  where
    below : (ds : List ℕ) (i : ℕ) → All IsAsciiDigit ds → get_or ds i 0 < 128
    below [] i digits = lit< tt
    below (d ∷ ds) zero digits = let first = All-head IsAsciiDigit d ds digits in omega (arith, first)
    below (d ∷ ds) (suc i) digits = below ds i (All-tail IsAsciiDigit d ds digits)

-- what `parse` reads of a plain word is the number that it spells
pub parsed_iff : (E : Type 0) (word : List ℕ) (r : Result ℕ E) → IsPlain word → ParsesUnsigned 32 10 word r → (n : ℕ) → (result_ok r ≡ Some n) ↔ SpellsNumber word n
parsed_iff E word (Ok x) plain parses n = (
  (λ e. let same : x ≡ n = cc in subst (SpellsNumber word) same (plain_parses E word x plain parses)),
  λ is. ap Some (number_one word x n (plain_parses E word x plain parses) is),
)
parsed_iff E word (Err e) plain parses n = (
  (λ no. cc),
  λ is. let read = parse-decimal 32 n word (Err e) is.1 (omega (arith, is.1)) is.0 parses in cc,
)
