-- Each reserved word and each mark has a class of its own.
use Rattle.std.proofs.Common.{◌≡◌, ◌≢◌, ℕ, zero, suc, ◌+◌, ◌-◌, ◌<◌, ◌≤◌, Bool, true, false, List, [], ◌∷◌, length, take, drop, slice_range, nat_eq, codes, refl, sym, ap, ◌∙◌, arith, if◌then◌else◌}
use Rattle.std.specs.List.{starts_with}
use Rattle.std.specs.Str.{bytes_eq}
use Rattle.jim_text.specs.Words.{look_up, is_known, is_in, is_reserved, words, marks}
use Rattle.jim_text.specs.Spelling.{IsMark, IsAt}
use Rattle.jim_text.specs.Spelling.IsMark.{single, double, triple}
use Rattle.jim_text.specs.Spelling.IsAt.{this, caught, parameter}
use Rattle.jim_text.specs.declared.lead.Lead.TheVariants.{Other, This, Caught, Parameter}
use Rattle.jim_text.proofs.MarkLemmas.{one_part, two_part, three_part}
use Rattle.jim_text.proofs.TableLemmas.{class_known}
use Rattle.jim_signs.specs.Leads.{at_lead}

pub word_classed : (text : List ℕ) → is_reserved text ≡ true → look_up words text ≢ Other
word_classed text h = class_known (look_up words text) h

pub mark_classed : (bytes : List ℕ) (from to : ℕ) → IsMark bytes from to → from < to → to ≤ length bytes → look_up marks (slice_range bytes from to) ≢ Other
mark_classed bytes from to mark low high = class_known (look_up marks (slice_range bytes from to)) (by mark)
  where
    by : IsMark bytes from to → is_in marks (slice_range bytes from to) ≡ true
    by (single e is bare) = ap (is_in marks) (one_part bytes from to e high) ∙ is
    by (double e is) = ap (is_in marks) (two_part bytes from to e high) ∙ is
    by (triple e is) = ap (is_in marks) (three_part bytes from to e high) ∙ is

take_within : (n m : ℕ) (xs : List ℕ) → n ≤ m → take n (take m xs) ≡ take n xs
take_within zero m xs h = refl
take_within (suc n) zero xs h = absurd (omega arith)
take_within (suc n) (suc m) [] h = refl
take_within (suc n) (suc m) (x ∷ xs) h = ap (λ s. x ∷ s) (take_within n m xs (omega arith))

at_parameter : (text : List ℕ) → starts_with nat_eq text (codes "@parameter") ≡ true → is_known (at_lead text) ≡ true
at_parameter text starts = by (bytes_eq text (codes "@this")) (bytes_eq text (codes "@caughtexception")) (starts_with nat_eq text (codes "@parameter")) starts
  where
    by : (a b c : Bool) → c ≡ true → is_known (if a then This else if b then Caught else if c then Parameter else Other) ≡ true
    by true b c e = refl
    by false true c e = refl
    by false false c e = ap (λ t. is_known (if t then Parameter else Other)) e

pub at_classed : (bytes : List ℕ) (from to : ℕ) → IsAt bytes from to → to ≤ length bytes → at_lead (slice_range bytes from to) ≢ Other
at_classed bytes from to (this has e) high = class_known (at_lead (slice_range bytes from to)) (ap (λ s. is_known (at_lead s)) (ap (slice_range bytes from) e ∙ has))
at_classed bytes from to (caught has e) high = class_known (at_lead (slice_range bytes from to)) (ap (λ s. is_known (at_lead s)) (ap (slice_range bytes from) e ∙ has))
at_classed bytes from to (parameter has digits) high = class_known (at_lead (slice_range bytes from to)) (at_parameter (slice_range bytes from to) starts)
  where
    front : take 10 (slice_range bytes from to) ≡ codes "@parameter"
    front =
        let ten : from + 10 - from ≡ 10 = omega arith in
        take_within 10 (to - from) (drop from bytes) (omega (arith, digits.some)) ∙ ap (λ n. take n (drop from bytes)) (sym ten) ∙ has

    starts : starts_with nat_eq (slice_range bytes from to) (codes "@parameter") ≡ true
    starts = ap (bytes_eq (codes "@parameter")) front
