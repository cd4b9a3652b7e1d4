-- Holders that stand side by side, and from which places one of them is reached.
use Rattle.std.specs.Prelude.{◌≡◌, ℕ, ◌<◌, ◌≤◌, ◌↔◌, ◌⊎◌, List, length, slice_index, slice_index_or}
use Rattle.class_order.specs.declared.spans.Span.{Span}
use Rattle.class_order.specs.Spans.{AreApart, AreFilled, Holds}
use Rattle.class_rules.specs.Rows.{Rows, Sub}
use Rattle.default_turns.specs.declared.holders.Holder.{Holder}

-- the holders up to that index are those that stand before the place
pub record IsFirstFrom (holders : List Holder) (place at : ℕ) : Type 0 where
  pub bound : at ≤ length holders
  pub earlier : (k : ℕ) (d : Holder) → k < at → (slice_index_or holders k d).place < place
  pub later : (k : ℕ) (d : Holder) → at ≤ k → k < length holders → place ≤ (slice_index_or holders k d).place

-- the class reaches one of the holders at the indexes from the first up to the other
pub record ReachesOne (rows : Rows) (holders : List Holder) (from to class : ℕ) : Type 0 where
  pub holder : Holder
  pub index : ℕ
  pub after : from ≤ index
  pub before : index < to
  pub listed : index < length holders
  pub is : slice_index_or holders index holder ≡ holder
  pub reached : Sub rows class holder.interface

-- the places of the classes with a fact were added
pub record AddsPlaces (rows : Rows) (places : List ℕ) (Is : ℕ → Type 0) (old new : List Span) : Type 0 where
  pub filled : AreFilled old → AreFilled new
  pub exact : (class : ℕ) → class < length rows.classes → Holds new (slice_index places class) ↔ (Holds old (slice_index places class) ⊎ Is class)

-- those of the classes that reach one of the holders were added
abbrev pub AddsReached : Rows → List ℕ → List Holder → ℕ → ℕ → List Span → List Span → Type 0
AddsReached rows places holders from to old new = AddsPlaces rows places (ReachesOne rows holders from to) old new

-- the spans are apart, and hold the places of the classes that reach one of the holders at the indexes from the first up to the other
pub record AreReached (rows : Rows) (places : List ℕ) (holders : List Holder) (from to : ℕ) (spans : List Span) : Type 0 where
  pub apart : AreApart spans
  pub exact : (class : ℕ) → class < length rows.classes → Holds spans (slice_index places class) ↔ ReachesOne rows holders from to class
