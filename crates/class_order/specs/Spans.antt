-- Sets of places, kept as spans.
use Rattle.std.specs.Prelude.{ℕ, ◌<◌, ◌≤◌, List, Contains, All, length, slice_index_or}
use Rattle.class_order.specs.declared.spans.Span.{Span}
use Rattle.class_order.specs.Groups.{group}

-- the place lies in one of the spans
abbrev pub Holds : List Span → ℕ → Type 0
Holds spans p = (s : Span) × Contains spans s × (s.start ≤ p) × (p < s.end)

-- no span is empty
abbrev pub AreFilled : List Span → Type 0
AreFilled spans = All (λ s. s.start < s.end) spans

-- the spans are in order, and no two of them touch
pub record AreApart (spans : List Span) : Type 0 where
  pub filled : AreFilled spans
  pub apart : (i j : ℕ) (d : Span) → i < j → j < length spans → (slice_index_or spans i d).end < (slice_index_or spans j d).start

-- the place lies in one of the spans that the table has for the classes
abbrev pub HoldsAny : List (List Span) → List ℕ → ℕ → Type 0
HoldsAny table classes p = (c : ℕ) × Contains classes c × Holds (group table c) p
