-- The signs of a text have the numbers of its names.
use Rattle.std.proofs.Common.{if◌then◌else◌, ◌≡◌, ℕ, ◌<◌, Bool, true, false, List, [], ◌∷◌, ◌++◌, length, fold, map, Option, Some, None, nat_eq, codes, inl, inr}
use Rattle.std.specs.List.{AllByRecursion, list_any, starts_with}
use Rattle.std.specs.Str.{bytes_eq}
use Rattle.lists.proofs.Places.{slice_get-below}
use Rattle.jim_text.specs.declared.Kind.{Kind}
use Rattle.jim_text.specs.declared.Kind.TheVariants as kind
use Rattle.jim_text.specs.declared.Token.{Token}
use Rattle.jim_text.specs.Contents as name
use Rattle.jim_text.specs.declared.lead.Lead.TheVariants as lead
use Rattle.jim_signs.specs.Leads.{lead_of, at_lead}
use Rattle.jim_signs.specs.Names.{text_of, contents, between_quotes, with_contents, names_of, place_of}
use Rattle.jim_signs.specs.Signs.{IsBelow, number_of, sign_of, signs_of}
use Rattle.jim_signs.proofs.LeadLemmas.{IsNaming, word_names_none, mark_names_none}
use Rattle.jim_signs.proofs.NameLemmas.{list_any-more, slice_get-place_of}
use Rattle.jim_signs.proofs.SignLemmas.{IsKnown, IsKnownToken, known_with}

-- the names so far and those of more tokens
abbrev names_from : List ℕ → List (List ℕ) → List Token → List (List ℕ)
names_from bytes names tokens = fold (λ names token. with_contents names (contents token.kind (text_of bytes token))) names tokens

-- what is known stays known with one more
known_still : (names : List (List ℕ)) (said more : Option (List ℕ)) → IsKnown names said → IsKnown (with_contents names more) said
known_still names None more h = tt
known_still names (Some text) None h = h
known_still names (Some text) (Some more) h = by (list_any (bytes_eq more) names)
  where
    by : (t : Bool) → list_any (bytes_eq text) (if t then names else names ++ more ∷ []) ≡ true
    by true = h
    by false = list_any-more names (more ∷ []) text h

-- and with those of more tokens
known_from : (bytes : List ℕ) (names : List (List ℕ)) (tokens : List Token) (said : Option (List ℕ)) → IsKnown names said → IsKnown (names_from bytes names tokens) said
known_from bytes names [] said h = h
known_from bytes names (t ∷ tokens) said h =
    known_from bytes (with_contents names (contents t.kind (text_of bytes t))) tokens said (known_still names said (contents t.kind (text_of bytes t)) h)

-- the tokens of a text say what is among its names
all_known : (bytes : List ℕ) (names : List (List ℕ)) (tokens : List Token) → AllByRecursion (IsKnownToken bytes (names_from bytes names tokens)) tokens
all_known bytes names [] = tt
all_known bytes names (t ∷ tokens) =
    let now = with_contents names (contents t.kind (text_of bytes t)) in
    (known_from bytes now tokens (contents t.kind (text_of bytes t)) (known_with names (contents t.kind (text_of bytes t))), all_known bytes now tokens)

-- a text that is among the names has a place below their length
place_below : (names : List (List ℕ)) (text : List ℕ) → list_any (bytes_eq text) names ≡ true → place_of names text < length names
place_below names text h = slice_get-below names (place_of names text) text (slice_get-place_of names text h)

-- a word with an at sign is neither a name nor a text
at_names_none : (text : List ℕ) → ¬ (IsNaming (at_lead text))
at_names_none text = by (bytes_eq text (codes "@this")) (bytes_eq text (codes "@caughtexception")) (starts_with nat_eq text (codes "@parameter"))
  where
    by : (a b c : Bool) → ¬ (IsNaming (if a then lead.This else if b then lead.Caught else if c then lead.Parameter else lead.Other))
    by true b c (inl e) = cc
    by true b c (inr e) = cc
    by false true c (inl e) = cc
    by false true c (inr e) = cc
    by false false true (inl e) = cc
    by false false true (inr e) = cc
    by false false false (inl e) = cc
    by false false false (inr e) = cc

-- the sign of a token that says what is among the names has the number of one of them
sign_low : (bytes : List ℕ) (names : List (List ℕ)) (token : Token) → IsKnownToken bytes names token → IsBelow (length names) (sign_of bytes names token)
sign_low bytes names token known = by token.kind (text_of bytes token) known
  where
    by : (k : Kind) (text : List ℕ) → IsKnown names (contents k text) → IsNaming (lead_of k text) → number_of names k text < length names
    by kind.Name text h naming = place_below names (name.contents text) h
    by kind.Text text h naming = place_below names (between_quotes text) h
    by kind.Word text h naming = absurd (word_names_none text naming)
    by kind.Mark text h naming = absurd (mark_names_none text naming)
    by kind.At text h naming = absurd (at_names_none text naming)
    by kind.Number text h (inl e) = cc
    by kind.Number text h (inr e) = cc

-- and so has each of the signs of such tokens
each_low : (bytes : List ℕ) (names : List (List ℕ)) (tokens : List Token) → AllByRecursion (IsKnownToken bytes names) tokens
    → AllByRecursion (IsBelow (length names)) (map (sign_of bytes names) tokens)
each_low bytes names [] h = tt
each_low bytes names (t ∷ tokens) h = (sign_low bytes names t h.0, each_low bytes names tokens h.1)

-- the signs of a text that are names or texts have the numbers of its names
pub signs_low : (bytes : List ℕ) (tokens : List Token) → AllByRecursion (IsBelow (length (names_of bytes tokens))) (signs_of bytes tokens)
signs_low bytes tokens = each_low bytes (names_of bytes tokens) tokens (all_known bytes [] tokens)
