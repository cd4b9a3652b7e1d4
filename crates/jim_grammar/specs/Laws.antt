-- What holds of all texts, and of all lists of tokens that are none.
use Rattle.std.specs.Prelude.{◌≡◌, ◌≢◌, ℕ, List, map, All}
use Rattle.jim_signs.specs.declared.seen.Sign.{Sign}
use Rattle.jim_text.specs.declared.lead.Lead.{Lead}
use Rattle.jim_text.specs.declared.lead.Lead.TheVariants as lead
use Rattle.jim_grammar.specs.Refusals.{Derives, Least}

-- no token of a text has the class that no token of lexed bytes has
abbrev pub TextsHaveKnownClasses : Type 0
TextsHaveKnownClasses = (signs : List Sign) → Derives signs → All (λ s. s.lead ≢ lead.Other) signs

-- the classes of the tokens alone, in order
abbrev pub leads : List Sign → List Lead
leads signs = map (λ s. s.lead) signs

-- whether tokens are a text goes by their classes alone: what the tokens name is free
abbrev pub TextsGoByClasses : Type 0
TextsGoByClasses = (a b : List Sign) → leads a ≡ leads b → Derives a → Derives b

-- there is at most one least refused place
abbrev pub LeastPlaceIsOne : Type 0
LeastPlaceIsOne = (signs : List Sign) (a b : ℕ) → Least signs a → Least signs b → a ≡ b
