-- For each key the places of the classes that reach an owner of it: a class with a member of this key.
use Rattle.std.specs.Prelude.{◌≡◌, ℕ, ◌<◌, ◌⊎◌, ◌↔◌, List, All, Contains, length}
use Rattle.class_tree.specs.declared.first_rows.Member.{Member}
use Rattle.class_tree.specs.declared.owners.KeyOwners.{KeyOwners}
use Rattle.class_tree.specs.declared.owners.Owners.{Owners}
use Rattle.class_rules.specs.declared.rows.ClassRow.{ClassRow}
use Rattle.class_order.specs.declared.spans.Span.{Span}
use Rattle.class_order.specs.Groups.{group}
use Rattle.class_order.specs.Spans.{AreApart, Holds, HoldsAny}
use Rattle.class_tree.specs.declared.holders.Holders.{Holders}
use Rattle.class_tree.specs.Holders.{AreHolders, few_of}
use Rattle.class_tree.specs.KeySpans.{spans_of}

-- the place lies in one of the spans that the table has for the class of a member with this key, which is none of few interfaces
abbrev pub HoldsOther : List Member → List (List Span) → Holders → ℕ → ℕ → Type 0
HoldsOther members table h k p = (m : Member) × Contains members m × (m.key ≡ k) × (Contains (few_of h k) m.class → ⊥) × Holds (group table m.class) p

-- the place lies in one of the spans kept for the key, or of those that the table has for its interfaces, where these are few
abbrev pub HoldsOwner : List (List Span) → Owners → ℕ → ℕ → Type 0
HoldsOwner table o k p = Holds (spans_of o.others k) p ⊎ HoldsAny table (few_of o.interfaces k) p

-- spans are apart, those kept and those in the table, and the table has a list for each interface that is looked up in it
pub record AreServed (table : List (List Span)) (o : Owners) : Type 0 where
  pub others_len : length o.others.spans ≡ length o.others.keys
  pub others_apart : (k : ℕ) → AreApart (spans_of o.others k)
  pub interfaces_len : length o.interfaces.interfaces ≡ length o.interfaces.keys
  pub known : (k c : ℕ) → Contains (few_of o.interfaces k) c → c < length table
  pub apart : (c : ℕ) → AreApart (group table c)

-- for each key its owners that are interfaces, and the places that the table has for the others and for interfaces that are more than few
pub record AreOwners (classes : List ClassRow) (members : List Member) (table : List (List Span)) (o : Owners) : Type 0 where
  pub served : AreServed table o
  pub others : (k p : ℕ) → Holds (spans_of o.others k) p ↔ HoldsOther members table o.interfaces k p
  pub interfaces : AreHolders classes members o.interfaces

-- the place lies in one of the spans that are united, or of those that the table has for the few interfaces
abbrev pub IsHeld : KeyOwners → ℕ → Type 0
IsHeld o p = Holds o.united.now p ⊎ HoldsAny o.table.now o.few.now p

-- spans are apart, and the table has a list for each of the few interfaces
pub record AreReady (o : KeyOwners) : Type 0 where
  pub united : AreApart o.united.now
  pub known : All (λ c. c < length o.table.now) o.few.now
  pub apart : (c : ℕ) → AreApart (group o.table.now c)

-- the place lies in the spans of this one of the few interfaces, and of no other owner
pub record IsSole (o : KeyOwners) (p owner : ℕ) : Type 0 where
  pub no_other : Holds o.united.now p → ⊥
  pub listed : Contains o.few.now owner
  pub held : Holds (group o.table.now owner) p
  pub only : (c : ℕ) → Contains o.few.now c → Holds (group o.table.now c) p → c ≡ owner
