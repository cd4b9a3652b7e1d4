-- What look-ups of a key along the parents give, by the numbers of the classes: from each turn on its row, up to the next turn.
use Rattle.std.specs.Prelude.{◌≡◌, ℕ, ◌+◌, ◌<◌, ◌≤◌, ◌↔◌, ◌==◌, Option, Some, None, List, [], ◌∷◌, All, Contains, cond, leb, length, position, slice_get, slice_index}
use Rattle.std.specs.List.Sorted.{IsNonDecreasingBy}
use Rattle.class_tree.specs.declared.first_rows.Member.{Member}
use Rattle.class_tree.specs.declared.numbering.Numbering.{Numbering}
use Rattle.class_tree.specs.declared.own_rows.Own.{Own}
use Rattle.class_tree.specs.declared.paths.Paths.{Paths}
use Rattle.class_rules.specs.declared.rows.ClassRow.{ClassRow}
use Rattle.class_tree.specs.declared.turns.Turn.{Turn}
use Rattle.class_order.specs.Groups.{group}
use Rattle.class_tree.specs.KeySpans.{list_at}
use Rattle.class_rules.specs.Lookups.{Upwards}
use Rattle.class_rules.specs.Rows.{HasParent}
use Rattle.class_order.specs.Tables.{HavePlaces}

-- the row of the last turn at the number or before it, of turns in order
abbrev pub turned : Option ℕ → List Turn → ℕ → Option ℕ
turned row [] n = row
turned row (t ∷ ts) n = cond (leb t.at n) (turned t.row ts n) row

-- the row of the last turn of all
abbrev pub last_row : Option ℕ → List Turn → Option ℕ
last_row row [] = row
last_row row (t ∷ ts) = last_row t.row ts

-- the turns stand in order, none after the number
pub record AreUpTo (n : ℕ) (turns : List Turn) : Type 0 where
  pub rising : IsNonDecreasingBy (λ t. t.at) turns
  pub up_to : All (λ t. t.at ≤ n) turns

-- the row at a number, if there is one
abbrev pub row_over : Option ℕ → List Turn → Option ℕ
row_over None turns = None
row_over (Some n) turns = turned None turns n

-- the number of a class, where there is one
abbrev pub numbered : List ℕ → Option ℕ → Option ℕ
numbered numbers None = None
numbered numbers (Some c) = Some (slice_index numbers c)

-- each of the slots has taken a turn at this number, to the row that `rows` tells of it; nothing else has changed
pub record HaveTurned (n : ℕ) (owns : List Own) (rows : Own → Option ℕ) (old new : List (List Turn)) : Type 0 where
  pub len : length new ≡ length old
  pub ordered : ((s : ℕ) → AreUpTo n (group old s)) → (s : ℕ) → AreUpTo n (group new s)
  pub kept : (s m : ℕ) → m < n → turned None (group new s) m ≡ turned None (group old s) m
  pub changed : (o : Own) → Contains owns o → last_row None (group new o.slot) ≡ rows o
  pub same : (s : ℕ) → ((o : Own) → Contains owns o → o.slot ≡ s → ⊥) → last_row None (group new s) ≡ last_row None (group old s)

-- no slot stands in the list with two rows
abbrev pub HaveOneRow : List Own → Type 0
HaveOneRow owns = (a b : Own) → Contains owns a → Contains owns b → a.slot ≡ b.slot → a.row ≡ b.row

-- what the class itself gives for the slot
abbrev pub OwnAt : List (List Own) → ℕ → ℕ → Option ℕ → Type 0
OwnAt owns s c None = (o : Own) → Contains (group owns c) o → o.slot ≡ s → ⊥
OwnAt owns s c (Some row) = Contains (group owns c) (record { slot = s; row = row })

-- what a look-up of the slot along the parents gives
abbrev pub SlotPath : List ClassRow → List (List Own) → ℕ → ℕ → Option ℕ → Type 0
SlotPath classes owns s class result = Upwards classes (OwnAt owns s) class result

-- the numbers rise from parents to those below them, each class has its own, and no class has two rows in one slot
pub record IsForest (classes : List ClassRow) (owns : List (List Own)) (numbers : List ℕ) (count : ℕ) : Type 0 where
  pub owns_len : length owns ≡ length classes
  pub slots : (c : ℕ) → All (λ o. o.slot < count) (group owns c)
  pub one : (c : ℕ) → HaveOneRow (group owns c)
  pub len : length numbers ≡ length classes
  pub apart : (a b : ℕ) → a < length classes → b < length classes → slice_index numbers a ≡ slice_index numbers b → a ≡ b
  pub falls : (a b : ℕ) → HasParent classes a b → slice_index numbers b < slice_index numbers a
  pub known : (a b : ℕ) → HasParent classes a b → b < length classes

-- the class comes before the number
abbrev pub IsBefore : List ℕ → ℕ → ℕ → Type 0
IsBefore numbers n c = (c < length numbers) × (slice_index numbers c < n)

-- the last turns tell what look-ups from the class give, or that nothing is found where there is none
abbrev pub AreHere : List ClassRow → List (List Own) → List (List Turn) → Option ℕ → Type 0
AreHere classes owns turns None = (s : ℕ) → last_row None (group turns s) ≡ None
AreHere classes owns turns (Some c) = (s : ℕ) → SlotPath classes owns s c (last_row None (group turns s))

-- the turns tell what look-ups from the classes before this number give
pub record TellBefore (classes : List ClassRow) (owns : List (List Own)) (numbers : List ℕ) (n : ℕ) (turns : List (List Turn)) : Type 0 where
  pub ordered : (s : ℕ) → AreUpTo n (group turns s)
  pub told : (c s : ℕ) → IsBefore numbers n c → SlotPath classes owns s c (turned None (group turns s) (slice_index numbers c))

-- a row that a class has for a key is that of a member of both
abbrev pub AreRowsOf : (ℕ → ℕ → Option ℕ) → List Member → Type 0
AreRowsOf own members = (class key row : ℕ) → own class key ≡ Some row → slice_get members row ≡ Some (record { class = class; key = key })

-- for each class its rows, by the slots of their keys
abbrev pub AreOwn : (ℕ → ℕ → Option ℕ) → List ℕ → List (List Own) → Type 0
AreOwn own keys owns = (c : ℕ) (o : Own) → Contains (group owns c) o ↔ ((key : ℕ) × (position (λ x. key == x) keys ≡ Some o.slot) × (own c key ≡ Some o.row))

-- the order has each class, and numbers rise from parents to those below them: a class with a later place in the order has a smaller one
pub record IsNumbering (classes : List ClassRow) (n : Numbering) : Type 0 where
  pub within : (c : ℕ) → Contains n.order.items c → c < length classes
  pub all : (c : ℕ) → c < length classes → Contains n.order.items c
  pub placed : (i c : ℕ) → slice_get n.order.items i ≡ Some c → slice_index n.numbers.items c + 1 + i ≡ length n.order.items
  pub own : HavePlaces (length classes) n.numbers.items
  pub falls : (a b : ℕ) → HasParent classes a b → slice_index n.numbers.items b < slice_index n.numbers.items a
  pub known : (a b : ℕ) → HasParent classes a b → b < length classes

-- the turns of the key
abbrev pub turns_of : Paths → ℕ → List Turn
turns_of paths key = list_at paths.turns (position (λ x. key == x) paths.keys)

-- look-ups of all keys from all classes, by the rows that each class has for itself and by the numbers of the classes
pub record TellPaths (classes : List ClassRow) (own : ℕ → ℕ → Option ℕ) (numbers : List ℕ) (paths : Paths) : Type 0 where
  pub len : length paths.turns ≡ length paths.keys
  pub rising : (key : ℕ) → IsNonDecreasingBy (λ t. t.at) (turns_of paths key)
  pub exact : (c key : ℕ) → c < length classes → Upwards classes (λ c r. r ≡ own c key) c (turned None (turns_of paths key) (slice_index numbers c))
