-- Protocols by names, as the parts of a word spell them.
use Rattle.std.specs.Prelude.{◌≡◌, ℕ, ◌<◌, List, map}
use Rattle.std.specs.Borrow.{Bor}
use Rattle.lists.specs.Lists.{Has}
use Rattle.track_rules.specs.Protocols.{AreApart, AreNames, Breaks, IsName, IsNoProtocol, NamedProtocol, NamedRow, head_text, row_text}
use Rattle.protocol_words.specs.declared.error.ProtocolError.{ProtocolError}
use Rattle.protocol_words.specs.declared.error.ProtocolError.TheVariants.{NoMemory, NotProtocol, TooManyStates, UnknownClass}
use Rattle.protocol_words.specs.declared.spelling.Spelling.{Spelling}
use Rattle.protocol_words.specs.declared.words.RowNames.{RowNames}

abbrev pub named_row : RowNames → NamedRow
named_row row = record { from = row.from.now; event = row.event.now; to = row.to.now }

abbrev pub named_protocol : Spelling → NamedProtocol
named_protocol s = record { class = s.class.now; first = s.first.now; rows = map named_row s.rows.items }

abbrev pub texts : List (Bor (List ℕ)) → List (List ℕ)
texts parts = map (λ part. part.now) parts

-- the part is these two names with a blank between them
pub record IsHead (part first second : List ℕ) : Type 0 where
  pub is_text : part ≡ head_text first second
  pub is_first : IsName first
  pub is_second : IsName second

-- the part is the row
pub record IsRow (part : List ℕ) (row : NamedRow) : Type 0 where
  pub is_text : part ≡ row_text row
  pub names : AreNames row

-- the parts are the rows, and no two have one first state and one event
pub record AreRows (parts : List (List ℕ)) (rows : List NamedRow) : Type 0 where
  pub texts : parts ≡ map row_text rows
  pub names : (row : NamedRow) → Has rows row → AreNames row
  pub apart : AreApart rows

-- behind the first part of a word this is the first that breaks the grammar
abbrev pub BreaksAfterHead : List (List ℕ) → ProtocolError → Type 0
BreaksAfterHead parts (NotProtocol at) = (0 < at) × Breaks parts at × ((m : ℕ) → 0 < m → m < at → Breaks parts m → ⊥)
BreaksAfterHead parts NoMemory = Unit {0}
BreaksAfterHead parts (TooManyStates at) = ⊥
BreaksAfterHead parts UnknownClass = ⊥

-- why a word has no protocol by names: this is its first part that breaks the grammar
abbrev pub IsUnspelled : List ℕ → ProtocolError → Type 0
IsUnspelled word (NotProtocol at) = IsNoProtocol word at
IsUnspelled word NoMemory = Unit {0}
IsUnspelled word (TooManyStates at) = ⊥
IsUnspelled word UnknownClass = ⊥
