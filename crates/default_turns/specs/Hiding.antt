-- From which places the methods of an interface are hidden.
use Rattle.std.specs.Prelude.{◌≢◌, ℕ, ◌<◌, ◌≤◌, List, Contains}
use Rattle.class_order.specs.declared.spans.Span.{Span}
use Rattle.class_rules.specs.Rows.{Rows, Sub}
use Rattle.default_turns.specs.declared.holders.Holder.{Holder}
use Rattle.default_turns.specs.Stretches.{AddsPlaces}

-- the first interface is another one, below the second
pub record Hides (rows : Rows) (interface other : ℕ) : Type 0 where
  pub apart : interface ≢ other
  pub below : Sub rows interface other

-- the class reaches one of the holders that hides the interface
abbrev pub IsHidden : Rows → List Holder → ℕ → ℕ → Type 0
IsHidden rows holders interface class = (h : Holder) × Contains holders h × Hides rows h.interface interface × Sub rows class h.interface

-- the class reaches one of the holders whose place lies in the span, and which is another one than the interface
pub record ReachesIn (rows : Rows) (holders : List Holder) (interface : ℕ) (span : Span) (class : ℕ) : Type 0 where
  pub holder : Holder
  pub listed : Contains holders holder
  pub apart : holder.interface ≢ interface
  pub from : span.start ≤ holder.place
  pub within : holder.place < span.end
  pub reached : Sub rows class holder.interface

-- the places of these classes were added
abbrev pub AddsHidden : Rows → List ℕ → List Holder → ℕ → Span → List Span → List Span → Type 0
AddsHidden rows places holders interface span old new = AddsPlaces rows places (ReachesIn rows holders interface span) old new
