-- From which places default methods of a key are reached.
use Rattle.std.specs.Prelude.{◌≡◌, ◌↔◌, ◌⊎◌, ◌+◌, ◌<◌, ◌≤◌, ℕ, List, Contains, length, slice_index, slice_index_or}
use Rattle.class_order.specs.declared.spans.Span.{Span}
use Rattle.class_order.specs.Spans.{Holds}
use Rattle.class_rules.specs.Lookups.{IsDefault}
use Rattle.class_rules.specs.Rows.{Rows, Sub}
use Rattle.default_turns.specs.declared.holders.Holder.{Holder}
use Rattle.default_turns.specs.declared.stays.Stay.{Stay}
use Rattle.default_turns.specs.Hiding.{IsHidden}

-- the default method has a stay with this place
abbrev pub StaysAt : List Stay → ℕ → ℕ → Type 0
StaysAt stays row place = (s : Stay) × Contains stays s × (s.row ≡ row) × (s.start ≤ place) × (place < s.end)

-- where each stay ends another begins
abbrev pub AreEnded : List Stay → Type 0
AreEnded stays = (s : Stay) → Contains stays s → (t : Stay) × Contains stays t × (t.start ≡ s.end)

-- the stays of a default method at the places with a fact were added, with their ends
pub record AddsAt (row : ℕ) (At : ℕ → Type 0) (old new : List Stay) : Type 0 where
  pub ended : AreEnded old → AreEnded new
  pub exact : (r place : ℕ) → StaysAt new r place ↔ (StaysAt old r place ⊎ ((r ≡ row) × At place))

-- at those from the first place up to the other
abbrev pub AddsStay : ℕ → ℕ → ℕ → List Stay → List Stay → Type 0
AddsStay row start end old new = AddsAt row (λ place. (start ≤ place) × (place < end)) old new

-- at those of the span that aren't hidden
abbrev pub AddsBare : ℕ → Span → List Span → List Stay → List Stay → Type 0
AddsBare row span hidden old new = AddsAt row (λ place. (span.start ≤ place) × (place < span.end) × (Holds hidden place → ⊥)) old new

-- at those of the classes that reach the interface, which none of the holders hides from them
pub record AddsStaysOf (rows : Rows) (places : List ℕ) (holders : List Holder) (interface row : ℕ) (old new : List Stay) : Type 0 where
  pub ended : AreEnded old → AreEnded new
  pub exact : (class r : ℕ) → class < length rows.classes → StaysAt new r (slice_index places class)
      ↔ (StaysAt old r (slice_index places class) ⊎ ((r ≡ row) × Sub rows class interface × (IsHidden rows holders interface class → ⊥)))

-- a default method of the key stays at the places of the classes that reach it
pub record AreStays (rows : Rows) (places : List ℕ) (key : ℕ) (stays : List Stay) : Type 0 where
  pub ended : AreEnded stays
  pub exact : (class row : ℕ) → class < length rows.classes → StaysAt stays row (slice_index places class) ↔ IsDefault rows class key row

-- the next stay begins later, if there is one
abbrev pub IsLastThere : List Stay → ℕ → Type 0
IsLastThere stays at = (d : Stay) → at + 1 < length stays → (slice_index_or stays at d).start < (slice_index_or stays (at + 1) d).start
