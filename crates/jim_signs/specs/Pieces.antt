-- Tokens by themselves, apart from any text.
use Rattle.std.specs.Prelude.{◌≡◌, ℕ, ◌⊎◌, List}
use Rattle.jim_text.specs.declared.Kind.{Kind}
use Rattle.jim_text.specs.Laws.{IsSpelledAlone}
use Rattle.jim_text.specs.declared.lead.Lead.{Lead}
use Rattle.jim_text.specs.declared.lead.Lead.TheVariants as lead
use Rattle.jim_signs.specs.Leads.{lead_of}

-- a token: bytes that are spelled as its kind
pub record Piece : Type 0 where
  pub kind : Kind
  pub text : List ℕ
  pub spelled : IsSpelledAlone kind text

-- the class of a token
abbrev pub piece_lead : Piece → Lead
piece_lead piece = lead_of piece.kind piece.text

-- each class but `Other` is that of some token
abbrev pub HasTokens : Type 0
HasTokens = (class : Lead) → (class ≡ lead.Other) ⊎ ((piece : Piece) × (piece_lead piece ≡ class))
