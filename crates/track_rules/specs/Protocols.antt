-- Protocols: the states that the objects of a class go through, and the state to which each event leads from each state in which it is allowed (Strom
-- and Yemini 1986); and the words that spell them. The spelling is this project's own: parts with a semicolon between them, of names with a blank between
-- them. The first part is `CLASS STATE`, each part behind it, a row, is `STATE EVENT STATE`.
use Rattle.std.specs.Prelude.{◌≡◌, ℕ, zero, suc, ◌<◌, ◌≤◌, ◌⊎◌, ◌++◌, List, [], ◌∷◌, Some, flat_map, length, map, slice_get, take}
use Rattle.std.specs.List.{join_with_byte}
use Rattle.lists.specs.Lists.{IsLeast, Has, IsApart, Each, FirstSeen}
use Rattle.link_rules.specs.Linked.{LinkedProgram}
use Rattle.link_rules.specs.Accessed.{linked_class_names}
use Rattle.link_sites.specs.Sites.{IsNamedClass}
use Rattle.track_rules.specs.declared.row.ProtocolRow.{ProtocolRow}

-- a protocol: the class whose objects have states, the names of its states and of its events, each by its number, and its rows. Objects begin in state 0
pub record ProtocolParts : Type 0 where
  pub class : ℕ
  pub states : List (List ℕ)
  pub events : List (List ℕ)
  pub rows : List ProtocolRow

-- in the state `from` the event is allowed, and leads to the state `to`
abbrev pub HasRow : ProtocolParts → ℕ → ℕ → ℕ → Type 0
HasRow k from event to = Has k.rows (record { from = from; event = event; to = to })

-- the row's numbers are those of states and of an event
pub record IsInRange (k : ProtocolParts) (row : ProtocolRow) : Type 0 where
  pub from : row.from < length k.states
  pub event : row.event < length k.events
  pub to : row.to < length k.states

-- what holds of each protocol: it has 1 to 16 states, no two states and no two events have one name, its rows are in range, and no two of them have one
-- first state and one event
pub record IsProtocol (k : ProtocolParts) : Type 0 where
  pub some : 0 < length k.states
  pub few : length k.states ≤ 16
  pub states : IsApart k.states
  pub events : IsApart k.events
  pub rows : (row : ProtocolRow) → Has k.rows row → IsInRange k row
  pub apart : (i j : ℕ) (row other : ProtocolRow) → slice_get k.rows i ≡ Some row → slice_get k.rows j ≡ Some other
      → row.from ≡ other.from → row.event ≡ other.event → i ≡ j

-- a row by its names
pub record NamedRow : Type 0 where
  pub from : List ℕ
  pub event : List ℕ
  pub to : List ℕ

-- a protocol by its names: the class, the state in which objects begin, and the rows
pub record NamedProtocol : Type 0 where
  pub class : List ℕ
  pub first : List ℕ
  pub rows : List NamedRow

-- a name has a character, and none that is a blank or a semicolon. Other characters, line feeds and tabs too, are characters of names
pub record IsName (name : List ℕ) : Type 0 where
  pub some : 0 < length name
  pub no_blank : Has name 32 → ⊥
  pub no_semicolon : Has name 59 → ⊥

-- all three are names
pub record AreNames (row : NamedRow) : Type 0 where
  pub from : IsName row.from
  pub event : IsName row.event
  pub to : IsName row.to

-- `CLASS STATE`
abbrev pub head_text : List ℕ → List ℕ → List ℕ
head_text class first = class ++ 32 ∷ first

-- `STATE EVENT STATE`
abbrev pub row_text : NamedRow → List ℕ
row_text row = row.from ++ 32 ∷ row.event ++ 32 ∷ row.to

-- the text of a protocol
abbrev pub text : NamedProtocol → List ℕ
text k = head_text k.class k.first ++ flat_map (λ row. 59 ∷ row_text row) k.rows

-- no two rows have one first state and one event
abbrev pub AreApart : List NamedRow → Type 0
AreApart rows = (i j : ℕ) (row other : NamedRow) → slice_get rows i ≡ Some row → slice_get rows j ≡ Some other
    → row.from ≡ other.from → row.event ≡ other.event → i ≡ j

-- the word spells the protocol
pub record Spells (word : List ℕ) (k : NamedProtocol) : Type 0 where
  pub is_text : word ≡ text k
  pub class : IsName k.class
  pub first : IsName k.first
  pub rows : (row : NamedRow) → Has k.rows row → AreNames row
  pub apart : AreApart k.rows

-- the states in the order in which they are named: the first, and then the two of each row
abbrev pub named_states : NamedProtocol → List (List ℕ)
named_states k = k.first ∷ flat_map (λ row. row.from ∷ row.to ∷ []) k.rows

-- the events in the order in which they are named
abbrev pub named_events : NamedProtocol → List (List ℕ)
named_events k = map (λ row. row.event) k.rows

-- the row has the numbers of these names
pub record IsNumbered (states events : List (List ℕ)) (named : NamedRow) (row : ProtocolRow) : Type 0 where
  pub from : slice_get states row.from ≡ Some named.from
  pub event : slice_get events row.event ≡ Some named.event
  pub to : slice_get states row.to ≡ Some named.to

-- the word is this protocol: states and events are numbered in the order of their first appearance, and the class is the first with its name
pub record IsProtocolOf (p : LinkedProgram) (word : List ℕ) (k : ProtocolParts) : Type 0 where
  pub named : NamedProtocol
  pub spelled : Spells word named
  pub states : FirstSeen (named_states named) k.states
  pub events : FirstSeen (named_events named) k.events
  pub rows : Each (IsNumbered k.states k.events) named.rows k.rows
  pub few : length k.states ≤ 16
  pub class : IsNamedClass p named.class k.class

-- the parts of a word: it is they with a semicolon between them, and none of them has one
pub record AreParts (word : List ℕ) (parts : List (List ℕ)) : Type 0 where
  pub some : 0 < length parts
  pub joined : join_with_byte 59 parts ≡ word
  pub cut : (part : List ℕ) → Has parts part → Has part 59 → ⊥

-- this part is this row
pub record IsRowAt (parts : List (List ℕ)) (at : ℕ) (row : NamedRow) : Type 0 where
  pub behind : 0 < at
  pub there : slice_get parts at ≡ Some (row_text row)
  pub names : AreNames row

-- the part has the form of its place
abbrev pub HasForm : List (List ℕ) → ℕ → Type 0
HasForm parts zero = (class : List ℕ) × (first : List ℕ) × (slice_get parts zero ≡ Some (head_text class first)) × IsName class × IsName first
HasForm parts (suc at) = (row : NamedRow) × IsRowAt parts (suc at) row

-- the part is a row with the first state and the event of an earlier one
pub record IsRepeated (parts : List (List ℕ)) (at : ℕ) : Type 0 where
  pub row : NamedRow
  pub there : IsRowAt parts at row
  pub earlier : NamedRow
  pub place : ℕ
  pub before : place < at
  pub earlier_there : IsRowAt parts place earlier
  pub from : row.from ≡ earlier.from
  pub event : row.event ≡ earlier.event

-- the part breaks the grammar: it has another form, or repeats a first state and an event
abbrev pub Breaks : List (List ℕ) → ℕ → Type 0
Breaks parts at = (at < length parts) × ((HasForm parts at → ⊥) ⊎ IsRepeated parts at)

-- the word spells no protocol, and this is the first part that breaks the grammar
abbrev pub IsNoProtocol : List ℕ → ℕ → Type 0
IsNoProtocol word at = (parts : List (List ℕ)) × AreParts word parts × IsLeast (Breaks parts) at

-- the parts up to this one, the first being 0, name more than 16 states
abbrev pub NamesTooMany : NamedProtocol → ℕ → Type 0
NamesTooMany k at = (states : List (List ℕ)) × FirstSeen (named_states (record k { rows = take at k.rows })) states × (16 < length states)

-- the word spells a protocol, and this is the first of its parts that brings a 17th state
abbrev pub HasTooManyStates : List ℕ → ℕ → Type 0
HasTooManyStates word at = (k : NamedProtocol) × Spells word k × IsLeast (NamesTooMany k) at

-- the word spells a protocol of no more than 16 states, and no class has the name of its class
pub record IsOfUnknownClass (p : LinkedProgram) (word : List ℕ) : Type 0 where
  pub named : NamedProtocol
  pub spelled : Spells word named
  pub few : (at : ℕ) → NamesTooMany named at → ⊥
  pub unknown : Has (linked_class_names p.classes) named.class → ⊥
