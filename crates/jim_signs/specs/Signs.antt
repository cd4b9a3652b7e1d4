-- The signs of a text.
use Rattle.std.specs.Prelude.{◌≡◌, ◌≢◌, ℕ, ◌<◌, ◌≤◌, ◌⊎◌, if◌then◌else◌, List, length, map, drop, nat_eq, codes, slice_get, Some, IfSome, All}
use Rattle.std.specs.List.{starts_with, AllZip}
use Rattle.std.specs.Str.Parse.{digits_value}
use Rattle.jim_text.specs.declared.Kind.{Kind}
use Rattle.jim_text.specs.declared.Kind.TheVariants as kind
use Rattle.jim_text.specs.declared.Token.{Token}
use Rattle.jim_text.specs.Contents as name
use Rattle.jim_text.specs.Lexes.{Lexes}
use Rattle.jim_text.specs.declared.lead.Lead.TheVariants as lead
use Rattle.jim_signs.specs.declared.seen.Sign.{Sign}
use Rattle.jim_signs.specs.Leads.{lead_of}
use Rattle.jim_signs.specs.Names.{text_of, contents, between_quotes, place_of, names_of}

-- the number of a parameter, as it is written behind `@parameter`, and 0 for the other words with an at sign
abbrev pub at_number : List ℕ → ℕ
at_number text = if starts_with nat_eq text (codes "@parameter") then digits_value 10 (drop 10 text) else 0

-- what a token names: its contents by their place among the names, or a parameter by its number
abbrev pub number_of : List (List ℕ) → Kind → List ℕ → ℕ
number_of names kind.Name text = place_of names (name.contents text)
number_of names kind.Text text = place_of names (between_quotes text)
number_of names kind.At text = at_number text
number_of names kind.Word text = 0
number_of names kind.Number text = 0
number_of names kind.Mark text = 0

-- a token as the grammar sees it: its class, and the number of what it says
abbrev pub sign_of : List ℕ → List (List ℕ) → Token → Sign
sign_of bytes names token = record {
  lead = lead_of token.kind (text_of bytes token);
  text = number_of names token.kind (text_of bytes token);
}

-- one sign a token, in order
abbrev pub signs_of : List ℕ → List Token → List Sign
signs_of bytes tokens = map (sign_of bytes (names_of bytes tokens)) tokens

-- what the token says is the name with the number of the sign
abbrev pub IsNamed : List ℕ → List (List ℕ) → Token → Sign → Type 0
IsNamed bytes names token sign = IfSome (contents token.kind (text_of bytes token)) (λ text. slice_get names sign.text ≡ Some text)

-- a sign for a name or a text has the number of one of so many names
abbrev pub IsBelow : ℕ → Sign → Type 0
IsBelow count sign = (sign.lead ≡ lead.Name) ⊎ (sign.lead ≡ lead.Text) → sign.text < count

-- the names and the signs of the tokens that the bytes are
pub record AreRead (bytes : List ℕ) (names : List (List ℕ)) (signs : List Sign) : Type 0 where
  pub tokens : List Token
  pub lexed : Lexes bytes tokens
  pub few : length tokens ≤ length bytes
  pub the_names : names ≡ names_of bytes tokens
  pub the_signs : signs ≡ signs_of bytes tokens
  pub named : AllZip (IsNamed bytes names) tokens signs
  pub below : All (IsBelow (length names)) signs
  pub known : All (λ (sign : Sign). sign.lead ≢ lead.Other) signs
