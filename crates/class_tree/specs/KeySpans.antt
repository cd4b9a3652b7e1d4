-- For each key the places of the classes that reach a class with a member of this key.
use Rattle.std.specs.Prelude.{◌≡◌, ℕ, ◌↔◌, ◌==◌, Option, Some, None, List, [], Contains, length, position}
use Rattle.class_tree.specs.declared.first_rows.Member.{Member}
use Rattle.class_tree.specs.declared.key_spans.KeySpans.{KeySpans}
use Rattle.class_rules.specs.declared.rows.MethodRow.{MethodRow}
use Rattle.class_rules.specs.declared.rows.FieldRow.{FieldRow}
use Rattle.class_order.specs.declared.spans.Span.{Span}
use Rattle.class_order.specs.Groups.{group}
use Rattle.class_order.specs.Spans.{AreApart, Holds}

abbrev pub member_of_method : MethodRow → Member
member_of_method m = record { class = m.class; key = m.key }

abbrev pub member_of_field : FieldRow → Member
member_of_field f = record { class = f.class; key = f.key }

-- the list at an index, if there is one
abbrev pub list_at : {X : Type 0} → List (List X) → Option ℕ → List X
list_at lists None = []
list_at lists (Some i) = group lists i

-- the spans kept for the key
abbrev pub spans_of : KeySpans → ℕ → List Span
spans_of s k = list_at s.spans (position (λ x. k == x) s.keys)

-- the place lies in one of the spans that the table has for the class of a member with this key
abbrev pub HoldsKey : List Member → List (List Span) → ℕ → ℕ → Type 0
HoldsKey members table k p = (m : Member) × Contains members m × (m.key ≡ k) × Holds (group table m.class) p

-- for each key the places of its members
pub record IsKeyed (members : List Member) (table : List (List Span)) (s : KeySpans) : Type 0 where
  pub len : length s.spans ≡ length s.keys
  pub apart : (k : ℕ) → AreApart (spans_of s k)
  pub exact : (k p : ℕ) → Holds (spans_of s k) p ↔ HoldsKey members table k p

-- a list for each of the keys, with the classes of its members
pub record AreClassesByKey (members : List Member) (keys : List ℕ) (classes : List (List ℕ)) : Type 0 where
  pub some : (i c : ℕ) → Contains (group classes i) c → (m : Member) × Contains members m × (position (λ x. m.key == x) keys ≡ Some i) × (m.class ≡ c)
  pub all : (m : Member) (i : ℕ) → Contains members m → position (λ x. m.key == x) keys ≡ Some i → Contains (group classes i) m.class
