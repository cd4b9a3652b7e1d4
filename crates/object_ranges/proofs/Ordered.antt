-- What stands in order, by its ends and by its starts.
use Rattle.std.proofs.Common.{◌≡◌, ℕ, ◌<◌, ◌≤◌, ◌⊎◌, List, get_or, ap, inl, inr, arith}
use Rattle.std.specs.List.Sorted.{IsNonDecreasingBy}
use Rattle.class_order.specs.declared.spans.Span.{Span}
use Rattle.class_order.specs.Spans.{AreApart}
use Rattle.object_ranges.specs.declared.parts.Part.{Part}
use Rattle.object_ranges.specs.Parts.{AreInOrder}

at_or_below : (i j : ℕ) → i ≤ j → (i ≡ j) ⊎ (i < j)
at_or_below i j h = grind arith

pub span_ends_rise : (spans : List Span) → AreApart spans → IsNonDecreasingBy (λ (s : Span). s.end) spans
span_ends_rise spans a i j d le h = elim (at_or_below i j le) [
  | inl at ↦ let x = ap (λ k. (get_or spans k d).end) at in omega (arith, x)
  | inr lt ↦ omega (arith, a.apart i j d lt h, a.filled j d h)
]

pub span_starts_rise : (spans : List Span) → AreApart spans → IsNonDecreasingBy (λ (s : Span). s.start) spans
span_starts_rise spans a i j d le h = elim (at_or_below i j le) [
  | inl at ↦ let x = ap (λ k. (get_or spans k d).start) at in omega (arith, x)
  | inr lt ↦ omega (arith, a.apart i j d lt h, a.filled i d (omega (arith, lt, h)))
]

pub part_ends_rise : (parts : List Part) → AreInOrder parts → IsNonDecreasingBy (λ (t : Part). t.end) parts
part_ends_rise parts a i j d le h = elim (at_or_below i j le) [
  | inl at ↦ let x = ap (λ k. (get_or parts k d).end) at in omega (arith, x)
  | inr lt ↦ omega (arith, a.apart i j d lt h, a.filled j d h)
]

pub part_starts_rise : (parts : List Part) → AreInOrder parts → IsNonDecreasingBy (λ (t : Part). t.start) parts
part_starts_rise parts a i j d le h = elim (at_or_below i j le) [
  | inl at ↦ let x = ap (λ k. (get_or parts k d).start) at in omega (arith, x)
  | inr lt ↦ omega (arith, a.apart i j d lt h, a.filled i d (omega (arith, lt, h)))
]
