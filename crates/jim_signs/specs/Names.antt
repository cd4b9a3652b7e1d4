-- The names of a text.
use Rattle.std.specs.Prelude.{◌≡◌, ◌↔◌, ℕ, ◌-◌, ◌<◌, if◌then◌else◌, List, [], ◌∷◌, ◌++◌, length, fold, slice_get, slice_range, Option, Some, None}
use Rattle.std.specs.List.{filter_map, list_any, position_or_len}
use Rattle.std.specs.Str.{bytes_eq}
use Rattle.lists.specs.Lists.{Has, IsApart}
use Rattle.jim_text.specs.declared.Kind.{Kind}
use Rattle.jim_text.specs.declared.Kind.TheVariants as kind
use Rattle.jim_text.specs.declared.Token.{Token}
use Rattle.jim_text.specs.Contents as name

-- the bytes of a token
abbrev pub text_of : List ℕ → Token → List ℕ
text_of bytes token = slice_range bytes token.from token.to

-- a text without its first and its last byte, which are its quotes
abbrev pub between_quotes : List ℕ → List ℕ
between_quotes text = slice_range text 1 (length text - 1)

-- what a token says: a name without its quotes, a text without the two around it; the other tokens say nothing
abbrev pub contents : Kind → List ℕ → Option (List ℕ)
contents kind.Name text = Some (name.contents text)
contents kind.Text text = Some (between_quotes text)
contents kind.Word text = None
contents kind.Number text = None
contents kind.At text = None
contents kind.Mark text = None

-- the texts with one more put last, unless it is there
abbrev pub with_text : List (List ℕ) → List ℕ → List (List ℕ)
with_text names text = if list_any (bytes_eq text) names then names else names ++ text ∷ []

-- the texts with what a token says behind them, where it says something new
abbrev pub with_contents : List (List ℕ) → Option (List ℕ) → List (List ℕ)
with_contents names None = names
with_contents names (Some text) = with_text names text

-- what the tokens say, each text once, in the order in which each comes first
abbrev pub names_of : List ℕ → List Token → List (List ℕ)
names_of bytes tokens = fold (λ names token. with_contents names (contents token.kind (text_of bytes token))) [] tokens

-- the place of a text among the names, from 0
abbrev pub place_of : List (List ℕ) → List ℕ → ℕ
place_of names text = position_or_len (bytes_eq text) names

-- what the tokens say, one after the other
abbrev pub said : List ℕ → List Token → List (List ℕ)
said bytes tokens = filter_map (λ token. contents token.kind (text_of bytes token)) tokens

-- each text that is said, once, in the order in which it is said first
pub record AreFirsts (texts names : List (List ℕ)) : Type 0 where
  pub apart : IsApart names
  pub each : (text : List ℕ) → Has texts text ↔ Has names text
  pub in_order : (i j b : ℕ) (first second : List ℕ) → i < j → slice_get names i ≡ Some first → slice_get names j ≡ Some second
      → slice_get texts b ≡ Some second → (a : ℕ) × (a < b) × (slice_get texts a ≡ Some first)

-- the names of a text are that, whatever its tokens are
abbrev pub NamesAreFirsts : Type 0
NamesAreFirsts = (bytes : List ℕ) (tokens : List Token) → AreFirsts (said bytes tokens) (names_of bytes tokens)
