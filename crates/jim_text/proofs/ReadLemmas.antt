-- What is read from a place is read in one way.
use Rattle.std.proofs.Common.{◌≡◌, ℕ, zero, suc, ◌+◌, ◌≤◌, true, List, [], ◌∷◌, length, get_or, refl, sym, ap, ◌∙◌, subst, arith, true≢false}
use Rattle.std.specs.Prelude.{All}
use Rattle.jim_text.specs.declared.Token.{Token}
use Rattle.jim_text.specs.Spelling.{is_blank, Comment}
use Rattle.jim_text.specs.Lexes.{Begins, IsToken, IsSpelled, Reads, Lexes, InOrder, NoneBegins, StopsAt}
use Rattle.jim_text.specs.Lexes.Reads.{ends, blank, comment, token}
use Rattle.jim_text.proofs.CommentLemmas.{comment_first, comment_low, comment_within, comment_same}
use Rattle.jim_text.proofs.TokenLemmas.{kinds_same, token_blank, token_comment}

-- no comment begins with a blank
comment_blank : {bytes : List ℕ} {at to : ℕ} → Comment bytes at to → ¬ (is_blank (get_or bytes at 0) ≡ true)
comment_blank here b = true≢false (sym b ∙ ap is_blank (comment_first here))

-- a token at its place
begun : {bytes : List ℕ} {at : ℕ} (first : Token) → first.from ≡ at → IsToken bytes first → Begins bytes first.kind at first.to
begun {bytes} first e here = subst (λ m. Begins bytes first.kind m first.to) e here.begins

-- one longest token begins at a place
token_same : {bytes : List ℕ} {at : ℕ} (one two : Token) → one.from ≡ at → two.from ≡ at → IsToken bytes one → IsToken bytes two → one ≡ two
token_same {bytes} {at} one two p q a b =
    let to_same : one.to ≡ two.to = omega (
      arith,
      a.longest two.kind two.to (subst (λ m. Begins bytes two.kind m two.to) (q ∙ sym p) b.begins),
      b.longest one.kind one.to (subst (λ m. Begins bytes one.kind m one.to) (p ∙ sym q) a.begins),
    ) in
    let kind_same : one.kind ≡ two.kind = kinds_same one.kind two.kind (begun one p a) (subst (λ m. Begins bytes two.kind at m) (sym to_same) (begun two q b)) in
    let from_same : one.from ≡ two.from = p ∙ sym q in
    (λ i. record { kind = kind_same i; from = from_same i; to = to_same i })

-- nothing begins at the end
pub end_none : (bytes : List ℕ) → NoneBegins bytes (length bytes)
end_none bytes = record {
  blank = λ less. absurd (omega (arith, less));
  comment = λ to here. omega (arith, comment_low here, comment_within here);
  token = λ kind to here. omega (arith, here.some, here.within);
}

-- from one place on nothing else is read, up to a place at which nothing begins
pub read_same : {bytes : List ℕ} {at end_one end_two : ℕ} {one two : List Token} → Reads bytes at end_one one → NoneBegins bytes end_one
    → Reads bytes at end_two two → NoneBegins bytes end_two → (end_one ≡ end_two) × (one ≡ two)
read_same (ends e) stuck (ends f) stuck2 = (sym e ∙ f, refl)
read_same {bytes} (ends e) stuck (blank less b more) stuck2 = absurd ((subst (NoneBegins bytes) (sym e) stuck).blank less b)
read_same {bytes} (ends e) stuck (comment {next = next} here more) stuck2 = absurd ((subst (NoneBegins bytes) (sym e) stuck).comment next here)
read_same {bytes} (ends e) stuck (token first place here more) stuck2 = absurd ((subst (NoneBegins bytes) (sym e) stuck).token first.kind first.to (begun first place here))
read_same {bytes} (blank less b more) stuck (ends f) stuck2 = absurd ((subst (NoneBegins bytes) (sym f) stuck2).blank less b)
read_same (blank less b more) stuck (blank less2 b2 more2) stuck2 = read_same more stuck more2 stuck2
read_same (blank less b more) stuck (comment here more2) stuck2 = absurd (comment_blank here b)
read_same (blank less b more) stuck (token first place here more2) stuck2 = absurd (token_blank first.kind (begun first place here) b)
read_same {bytes} (comment {next = next} here more) stuck (ends f) stuck2 = absurd ((subst (NoneBegins bytes) (sym f) stuck2).comment next here)
read_same (comment here more) stuck (blank less b more2) stuck2 = absurd (comment_blank here b)
read_same {bytes} {at} {end_one} {end_two} {one} {two} (comment here more) stuck (comment there more2) stuck2 =
    read_same more stuck (subst (λ m. Reads bytes m end_two two) (comment_same there here) more2) stuck2
read_same (comment here more) stuck (token first place there more2) stuck2 = absurd (token_comment first.kind (begun first place there) here)
read_same {bytes} (token first place here more) stuck (ends f) stuck2 = absurd ((subst (NoneBegins bytes) (sym f) stuck2).token first.kind first.to (begun first place here))
read_same (token first place here more) stuck (blank less b more2) stuck2 = absurd (token_blank first.kind (begun first place here) b)
read_same (token first place here more) stuck (comment there more2) stuck2 = absurd (token_comment first.kind (begun first place here) there)
read_same {bytes} {at} {end_one} {end_two} (token {tokens = rest} first place here more) stuck (token {tokens = rest2} second place2 there more2) stuck2 =
    let same : first ≡ second = token_same first second place place2 here there in
    let back = read_same more stuck (subst (λ t. Reads bytes t.to end_two rest2) (sym same) more2) stuck2 in
    (back.0, cc (same, back.1))

-- what is read ends where it begins, or later
pub read_low : {bytes : List ℕ} {from to : ℕ} {tokens : List Token} → Reads bytes from to tokens → from ≤ to
read_low (ends e) = omega (arith, e)
read_low (blank less b more) = omega (arith, read_low more)
read_low (comment here more) = omega (arith, comment_low here, read_low more)
read_low (token first place here more) = omega (arith, place, here.begins.some, read_low more)

-- tokens in order from a place are so from an earlier one
in_order_from : (tokens : List Token) (from next to : ℕ) → from ≤ next → InOrder next tokens to → InOrder from tokens to
in_order_from [] from next to low order = omega (arith, low, order)
in_order_from (first ∷ rest) from next to low (starts, some, order) = (omega (arith, low, starts), some, order)

-- tokens that are read are in order
pub read_order : {bytes : List ℕ} {from to : ℕ} {tokens : List Token} → Reads bytes from to tokens → InOrder from tokens to
read_order (ends e) = omega (arith, e)
read_order {bytes} {from} {to} (blank {tokens = tokens} less b more) = in_order_from tokens from (from + 1) to (omega arith) (read_order more)
read_order {bytes} {from} {to} (comment {next = next} {tokens = tokens} here more) = in_order_from tokens from next to (omega (arith, comment_low here)) (read_order more)
read_order (token first place here more) = (omega (arith, place), here.begins.some, read_order more)

-- and spelled as their kinds
pub read_spelled : {bytes : List ℕ} {from to : ℕ} {tokens : List Token} → Reads bytes from to tokens → All (IsSpelled bytes) tokens
read_spelled (ends e) k d less = absurd (omega (arith, less))
read_spelled (blank less b more) k d small = read_spelled more k d small
read_spelled (comment here more) k d small = read_spelled more k d small
read_spelled (token first place here more) zero d small = here.begins
read_spelled (token first place here more) (suc k) d small = read_spelled more k d (omega (arith, small))

-- tokens in order have a byte each
pub order_few : (tokens : List Token) (from to : ℕ) → InOrder from tokens to → from + length tokens ≤ to
order_few [] from to order = omega (arith, order)
order_few (first ∷ rest) from to (starts, some, order) = omega (arith, starts, some, order_few rest first.to to order)

-- bytes with a place at which nothing begins have no tokens
pub stop_no_list : {bytes : List ℕ} {at : ℕ} → StopsAt bytes at → (tokens : List Token) → ¬ (Lexes bytes tokens)
stop_no_list {bytes} {at} stop tokens whole = omega (arith, stop.before, (read_same stop.reached stop.stuck whole (end_none bytes)).0)
