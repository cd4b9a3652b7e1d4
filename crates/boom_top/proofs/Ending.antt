-- How the text of a verdict ends.
use Rattle.std.proofs.Common.{◌≡◌, ℕ, zero, suc, ◌/◌, ◌%◌, ◌==◌, Bool, true, false, if◌then◌else◌, List, [], ◌∷◌, ◌++◌, codes, length, refl, sym, ap, ◌∙◌, subst, append_assoc, arith, slice_get, Some, None, Option, All, cond, true≢false}
use Rattle.std.specs.Fmt.{decimal, digit_glyph, digits, digits_onto}
use Rattle.std.specs.Char.{IsAsciiDigit}
use Rattle.std.specs.Io.KnownBytes.{Appends}
use Rattle.std.proofs.lemmas.Bool.{eq-eqb}
use Rattle.std.proofs.lemmas.List.{append_cancel_left}
use Rattle.std.proofs.lemmas.List.Elements.{All-nil, All-cons, All-head, All-tail}
use Rattle.std.proofs.lemmas.Option.{same_Some}
use Rattle.lists.specs.Lists.{Has}
use Rattle.link_rules.specs.Linked.{LinkedProgram}
use Rattle.report_text.specs.Lines.{text_of}
use Rattle.report_text.proofs.Growing.{text_of-append}
use Rattle.track_report.specs.Reports.{IsVerdictText, verdict_lines}
use Rattle.track_rules.specs.Protocols.{ProtocolParts}
use Rattle.track_verdicts.specs.declared.verdict.Finding.{Finding}
use Rattle.track_verdicts.specs.declared.verdict.Verdict.{Verdict}
use Rattle.boom_top.specs.Safety.{SaysSafe}

-- lists that are cut at the last of an element are cut alike
cut_last : (c : ℕ) (xs ys us vs : List ℕ) → (Has us c → ⊥) → (Has vs c → ⊥) → xs ++ c ∷ us ≡ ys ++ c ∷ vs → (xs ≡ ys) × (us ≡ vs)
cut_last c [] [] us vs p q e = (refl, cc)
cut_last c [] (y ∷ ys) us vs p q e = absurd (p (subst (λ zs. Has zs c) (sym rest) (middle ys)))
  where
    rest : us ≡ ys ++ c ∷ vs
    rest = cc

    middle : (zs : List ℕ) → Has (zs ++ c ∷ vs) c
    middle [] = (0, refl)
    middle (z ∷ zs) = let m = middle zs in (suc m.0, m.1)
cut_last c (x ∷ xs) [] us vs p q e = absurd (q (subst (λ zs. Has zs c) (sym rest) (middle xs)))
  where
    rest : vs ≡ xs ++ c ∷ us
    rest = cc

    middle : (zs : List ℕ) → Has (zs ++ c ∷ us) c
    middle [] = (0, refl)
    middle (z ∷ zs) = let m = middle zs in (suc m.0, m.1)
cut_last c (x ∷ xs) (y ∷ ys) us vs p q e =
    let rest : xs ++ c ∷ us ≡ ys ++ c ∷ vs = cc in
    let first : x ≡ y = cc in
    let cut = cut_last c xs ys us vs p q rest in
    (ap (λ z. z ∷ xs) first ∙ ap (λ zs. y ∷ zs) cut.0, cut.1)

-- what a number is printed as has digits alone
glyph : (n : ℕ) → IsAsciiDigit (digit_glyph false (n % 10))
glyph n = grind arith

-- of two lists of digits either is one
either : (b : Bool) (xs ys : List ℕ) → All IsAsciiDigit xs → All IsAsciiDigit ys → All IsAsciiDigit (if b then xs else ys)
either true xs ys p q = p
either false xs ys p q = q

-- more digits of a number stand before digits
onto : (k n : ℕ) (acc : List ℕ) → All IsAsciiDigit acc → All IsAsciiDigit (digits_onto k 10 false n acc)
onto zero n acc all = all
onto (suc k) n acc all =
    let more = All-cons IsAsciiDigit (digit_glyph false (n % 10)) acc (glyph n) all in
    either (n / 10 == 0) _ _ more (onto k (n / 10) (digit_glyph false (n % 10) ∷ acc) more)

all_digits : (n : ℕ) → All IsAsciiDigit (decimal n)
unfolding digits
all_digits n = onto 64 n [] (All-nil IsAsciiDigit)

-- so each character is one
has_digit : (xs : List ℕ) → All IsAsciiDigit xs → (i c : ℕ) → slice_get xs i ≡ Some c → IsAsciiDigit c
has_digit [] all i c e = absurd (let none = e in cc)
has_digit (x ∷ xs) all zero c e = let same : x ≡ c = cc in subst IsAsciiDigit same (All-head IsAsciiDigit x xs all)
has_digit (x ∷ xs) all (suc i) c e = has_digit xs (All-tail IsAsciiDigit x xs all) i c e

digits_alone : (n c : ℕ) → Has (decimal n) c → IsAsciiDigit c
digits_alone n c h = has_digit (decimal n) (all_digits n) h.0 c h.1

-- whether a list is without an element
abbrev lacks : ℕ → List ℕ → Bool
lacks c [] = true
lacks c (x ∷ xs) = cond (x == c) false (lacks c xs)

-- what says that a list is without an element is so
unlike : (b rest : Bool) → cond b false rest ≡ true → rest ≡ true
unlike true rest e = absurd (true≢false (sym e))
unlike false rest e = e

lacked : (c : ℕ) (xs : List ℕ) → lacks c xs ≡ true → Has xs c → ⊥
lacked c [] e h = let none = h.1 in cc
lacked c (x ∷ xs) e (zero, h) = let same : x ≡ c = cc in true≢false (sym e ∙ ap (λ b. cond b false (lacks c xs)) (eq-eqb x c same))
lacked c (x ∷ xs) e (suc i, h) = lacked c xs (unlike (x == c) (lacks c xs) e) (i, h)

-- two lists without it, one behind the other, are without it
both_lack : (cs xs : List ℕ) (c : ℕ) → (Has cs c → ⊥) → (Has xs c → ⊥) → Has (cs ++ xs) c → ⊥
both_lack [] xs c p q h = q h
both_lack (y ∷ ys) xs c p q (zero, e) = p (0, e)
both_lack (y ∷ ys) xs c p q (suc i, e) = both_lack ys xs c (λ h. p (suc h.0, h.1)) q (i, e)

-- the line with the size of a demand has no line feed
no_feed : (n : ℕ) → Has (codes "demanded " ++ decimal n) 10 → ⊥
no_feed n = both_lack (codes "demanded ") (decimal n) 10 (lacked 10 (codes "demanded ") refl) (λ h. let d = digits_alone n 10 h in omega (arith, d))

-- texts that end with two lines, of which the second has no line feed, stand the same up to the first
last_lines : (front behind line other : List ℕ) (m n : ℕ)
    → front ++ text_of (line ∷ (codes "demanded " ++ decimal m) ∷ []) ≡ behind ++ text_of (other ∷ (codes "demanded " ++ decimal n) ∷ [])
    → front ++ line ≡ behind ++ other
last_lines front behind line other m n e =
    let apart : (xs a b : List ℕ) → xs ++ (a ++ 10 ∷ (b ++ 10 ∷ [])) ≡ ((xs ++ a) ++ 10 ∷ b) ++ 10 ∷ [] = λ xs a b. simp append_assoc in
    let both = sym (apart front line (codes "demanded " ++ decimal m)) ∙ e ∙ apart behind other (codes "demanded " ++ decimal n) in
    let one = cut_last 10 ((front ++ line) ++ 10 ∷ (codes "demanded " ++ decimal m)) ((behind ++ other) ++ 10 ∷ (codes "demanded " ++ decimal n)) [] []
    (λ h. let none = h.1 in cc) (λ h. let none = h.1 in cc) both in
    (cut_last 10 (front ++ line) (behind ++ other) (codes "demanded " ++ decimal m) (codes "demanded " ++ decimal n) (no_feed m) (no_feed n) one.0).0

-- no text ends with `verdict safe` and with `verdict unsafe` and a number
not_both : (front behind : List ℕ) (n : ℕ) → front ++ (codes "verdict unsafe " ++ decimal n) ≡ behind ++ codes "verdict safe" → ⊥
not_both front behind n e =
    let both : (front ++ codes "verdict unsafe") ++ 32 ∷ decimal n ≡ (behind ++ codes "verdict") ++ 32 ∷ codes "safe" =
    append_assoc front (codes "verdict unsafe") (32 ∷ decimal n) ∙ e ∙ sym (append_assoc behind (codes "verdict") (32 ∷ codes "safe")) in
    let cut = cut_last 32 (front ++ codes "verdict unsafe") (behind ++ codes "verdict") (decimal n) (codes "safe")
    (λ h. let d = digits_alone n 32 h in omega (arith, d)) (lacked 32 (codes "safe") refl) both in
    let d = digits_alone n 115 (0, ap (λ xs. slice_get xs 0) cut.1) in
    omega (arith, d)

-- the lines that end what says safe
abbrev safe_lines : ℕ → List (List ℕ)
safe_lines n = codes "verdict safe" ∷ (codes "demanded " ++ decimal n) ∷ []

-- where what says so ends it, a verdict has no findings
none_found : (findings : List Finding) (head : List ℕ) (lines : List (List ℕ)) (demanded : ℕ) (front : List ℕ) (n : ℕ)
    → text_of (head ∷ (lines ++ verdict_lines (length findings) demanded)) ≡ front ++ text_of (safe_lines n) → findings ≡ []
none_found [] head lines demanded front n e = refl
none_found (f ∷ fs) head lines demanded front n e =
    let split = text_of-append (head ∷ lines) (verdict_lines (suc (length fs)) demanded) in
    let ends = last_lines (text_of (head ∷ lines)) front (codes "verdict unsafe " ++ decimal (suc (length fs))) (codes "verdict safe") demanded n (sym split ∙ e) in
    absurd (not_both (text_of (head ∷ lines)) front (suc (length fs)) ends)

-- what is written behind what was is how it ends
written : (old new : Option (List ℕ)) (text : List ℕ) → Appends old new text → (s : SaysSafe old new) → text ≡ s.front ++ text_of (safe_lines s.demanded)
written None new text wrote s = absurd (let none = s.told in cc)
written (Some xs) None text wrote s = absurd (let none = s.wrote in cc)
written (Some xs) (Some ys) text wrote s =
    let same = same_Some xs s.earlier s.told in
    append_cancel_left s.earlier text (s.front ++ text_of (safe_lines s.demanded))
    (ap (λ zs. zs ++ text) (sym same) ∙ sym wrote ∙ same_Some ys _ s.wrote ∙ append_assoc s.earlier s.front (text_of (safe_lines s.demanded)))

-- the text of a verdict that says safe is of one without findings
pub says_none : (p : LinkedProgram) (k : ProtocolParts) (entry : List ℕ) (verdict : Verdict) (text : List ℕ) → IsVerdictText p k entry verdict text
    → (old new : Option (List ℕ)) → Appends old new text → SaysSafe old new → verdict.findings ≡ []
says_none p k entry verdict text told old new wrote says =
    none_found verdict.findings told.head told.lines verdict.demanded says.front says.demanded (sym told.text_is ∙ written old new text wrote says)
