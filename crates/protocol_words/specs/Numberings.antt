-- The names of protocols by their numbers.
use Rattle.std.specs.Prelude.{ℕ, ◌≤◌, length}
use Rattle.lists.specs.Lists.{IsLeast, Each, FirstSeen}
use Rattle.track_rules.specs.Protocols.{IsNumbered, NamedProtocol, NamesTooMany, ProtocolParts, named_events, named_states}
use Rattle.protocol_words.specs.declared.error.ProtocolError.{ProtocolError}
use Rattle.protocol_words.specs.declared.error.ProtocolError.TheVariants.{NoMemory, NotProtocol, TooManyStates, UnknownClass}
use Rattle.protocol_words.specs.declared.numbering.Numbered.{Numbered}

-- the protocol of a class with these states, events and rows
abbrev pub protocol_parts : ℕ → Numbered → ProtocolParts
protocol_parts class n = record { class = class; states = n.states; events = n.events; rows = n.rows.items }

-- the names are numbered in the order of their first appearance, and the rows have their numbers
pub record IsNumbering (k : NamedProtocol) (n : Numbered) : Type 0 where
  pub states : FirstSeen (named_states k) n.states
  pub events : FirstSeen (named_events k) n.events
  pub rows : Each (IsNumbered n.states n.events) k.rows n.rows.items
  pub few : length n.states ≤ 16

-- why the names aren't numbered: this is the first part that brings a 17th state
abbrev pub IsCrowded : NamedProtocol → ProtocolError → Type 0
IsCrowded k (TooManyStates at) = IsLeast (NamesTooMany k) at
IsCrowded k NoMemory = Unit {0}
IsCrowded k (NotProtocol at) = ⊥
IsCrowded k UnknownClass = ⊥
