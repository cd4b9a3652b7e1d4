-- Where to go on from a holder of a key.
use Rattle.std.specs.Prelude.{◌≡◌, ℕ, ◌<◌, ◌≤◌, List, Contains, length, slice_index_or}
use Rattle.class_order.specs.declared.spans.Span.{Span}
use Rattle.class_rules.specs.Rows.{Rows, Sub}
use Rattle.class_tree.specs.Layouts.{LaysOut}
use Rattle.default_turns.specs.declared.holders.Holder.{Holder}
use Rattle.default_turns.specs.declared.hops.Hop.{Hop}
use Rattle.default_turns.specs.declared.hops.Line.{Line}
use Rattle.default_turns.specs.Holders.{ArePlaced}

-- the span in which the place lies ends there
abbrev pub IsEndOf : List Span → ℕ → ℕ → Type 0
IsEndOf spans place end = (s : Span) × Contains spans s × (s.start ≤ place) × (place < s.end) × (s.end ≡ end)

-- the holders from the one at the first index up to the other index are below it
abbrev pub AreBelow : Rows → List Holder → ℕ → ℕ → Type 0
AreBelow rows holders at to = (j : ℕ) (d : Holder) → at ≤ j → j < to → Sub rows (slice_index_or holders j d).interface (slice_index_or holders at d).interface

-- both lead on, and the hop over none but holders below the one where it begins
pub record IsHop (rows : Rows) (holders : List Holder) (at : ℕ) (hop : Hop) : Type 0 where
  pub forth : at < hop.next
  pub within : hop.next ≤ length holders
  pub below : AreBelow rows holders at hop.next
  pub on : hop.next ≤ hop.jump
  pub up_to : hop.jump ≤ length holders

-- the hop from an index
abbrev pub hop_at : List Hop → ℕ → Hop
hop_at hops at = slice_index_or hops at (record { next = 0; jump = 0; rank = 0 })

-- there is one from each of the holders
pub record AreHops (rows : Rows) (holders : List Holder) (hops : List Hop) : Type 0 where
  pub len : length hops ≡ length holders
  pub each : (at : ℕ) → at < length holders → IsHop rows holders at (hop_at hops at)

-- holders of a key in a tree, at their places in its layout, and the hops from them
pub record IsLine (line : Line) : Type 0 where
  pub laid : LaysOut line.placed.tree.now line.placed.layout
  pub placed : ArePlaced line.placed.tree.now line.placed.layout.places.now line.holders.now
  pub hops : AreHops line.placed.tree.now line.holders.now line.hops.now
