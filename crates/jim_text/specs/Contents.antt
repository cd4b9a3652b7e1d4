-- What a name's text says.
use Rattle.std.specs.Prelude.{ℕ, Bool, ◌==◌, not, List}
use Rattle.std.specs.List.{filter, list_any}

-- a quote
abbrev pub is_quote : ℕ → Bool
is_quote b = b == 39

-- whether a name's text has a quote
abbrev pub has_quote : List ℕ → Bool
has_quote text = list_any is_quote text

-- the contents of a name's components, joined by dots: its text without the quotes, since no quote stands in a component's
-- contents. Two names are one exactly where their contents are
abbrev pub contents : List ℕ → List ℕ
contents text = filter (λ b. not (is_quote b)) text
