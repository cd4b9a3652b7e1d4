-- Parts that have no choice, and parts that meet no span.
use Rattle.std.proofs.Common.{◌≡◌, ℕ, zero, suc, ◌+◌, ◌-◌, ◌<◌, ◌≤◌, ◌⊎◌, Option, Some, None, List, length, drop, get_or, slice_get, sym, ap, subst, ◌∙◌, inl, inr, arith}
use Rattle.std.specs.List.{Contains}
use Rattle.std.proofs.lemmas.List.{drop_all, drop_more}
use Rattle.std.proofs.lemmas.Option.{get_or_from_slice_get, slice_get-get_or, slice_get_within}
use Rattle.class_order.specs.declared.spans.Span.{Span}
use Rattle.class_order.specs.Spans.{AreApart, Holds}
use Rattle.lists.proofs.Elements.{same_read}
use Rattle.object_ranges.specs.declared.chosen.Choice.{Choice}
use Rattle.object_ranges.specs.declared.parts.Part.{Part}
use Rattle.object_ranges.specs.declared.selection.Selection.TheVariants.{Nothing}
use Rattle.object_ranges.specs.Chosen.{AreChoicesOf, IsChoiceOf, gives_none}
use Rattle.object_ranges.specs.Parts.{AreInOrder, IsIn}
use Rattle.object_ranges.proofs.Ordered.{part_starts_rise, span_starts_rise}

below_or : (a b : ℕ) → (a < b) ⊎ (b ≤ a)
below_or a b = grind arith

-- ---- parts that have no choice give nothing

module _ (marks : List (Option ℕ)) (spans : List Span) (parts : List Part) (choices : List Choice) where
  passed : (at n : ℕ) → ((k : ℕ) (part : Part) → at ≤ k → k < at + n → slice_get parts k ≡ Some part → IsChoiceOf marks spans part None)
      → AreChoicesOf marks spans (drop (at + n) parts) choices → AreChoicesOf marks spans (drop at parts) choices
  passed at zero none_of are = subst (λ k. AreChoicesOf marks spans (drop k parts) choices) (omega arith) are
  passed at (suc n) none_of are = elim (below_or at (length parts)) [
    | inl within ↦
        let d : Part = record { start = 0; end = 0; selection = Nothing } in
        subst (λ xs. AreChoicesOf marks spans xs choices) (sym (drop_more parts at d within))
        (gives_none (none_of at (get_or parts at d) (omega arith) (omega arith) (slice_get-get_or parts at d within))
        (passed (at + 1) n (λ k part le lt there. none_of k part (omega (arith, le)) (omega (arith, lt)) there)
        (subst (λ k. AreChoicesOf marks spans (drop k parts) choices) (omega arith) are)))
    | inr over ↦ subst (λ xs. AreChoicesOf marks spans xs choices) (drop_all (at + suc n) parts (omega (arith, over)) ∙ sym (drop_all at parts over)) are
  ]

  pub choices_passed : (at next : ℕ) → at ≤ next → ((k : ℕ) (part : Part) → at ≤ k → k < next → slice_get parts k ≡ Some part → IsChoiceOf marks spans part None)
      → AreChoicesOf marks spans (drop next parts) choices → AreChoicesOf marks spans (drop at parts) choices
  choices_passed at next le none_of are =
      let over : at + (next - at) ≡ next = omega (arith, le) in
      passed at (next - at) (λ k part from lt there. none_of k part from (omega (arith, lt, over)) there) (subst (λ k. AreChoicesOf marks spans (drop k parts) choices) (sym over) are)

-- ---- parts that meet no span

module _ (parts : List Part) (spans : List Span) (in_order : AreInOrder parts) (apart : AreApart spans) (from : ℕ) (d : Part) (h : from < length parts) (passed : ℕ)
    (ended : (k : ℕ) (e : Span) → k < passed → k < length spans → (get_or spans k e).end ≤ (get_or parts from d).start) where
  -- a part from there on that holds a place, and a span that holds it
  begins : (k place : ℕ) (part : Part) → from ≤ k → slice_get parts k ≡ Some part → IsIn part place → (get_or parts from d).start ≤ place
  begins k place part le there here =
      let x = ap (λ (t : Part). t.start) (get_or_from_slice_get parts k part d there) in
      omega (arith, part_starts_rise parts in_order from k d le (slice_get_within parts k part there), x, here.0)

  not_ended : (k place : ℕ) (part : Part) → from ≤ k → slice_get parts k ≡ Some part → IsIn part place → (s : Span) (m : Contains spans s) → place < s.end → passed ≤ m.0
  not_ended k place part le there here s m ends = elim (below_or m.0 passed) [
    | inl lt ↦ let x = ap (λ (t : Span). t.end) m.2 in absurd (omega (arith, ended m.0 s lt m.1, x, begins k place part le there here, ends))
    | inr past ↦ past
  ]

  -- all spans have ended
  pub none_left : length spans ≤ passed → (k place : ℕ) (part : Part) → from ≤ k → slice_get parts k ≡ Some part → IsIn part place → Holds spans place → ⊥
  none_left over k place part le there here (s, m, starts, ends) = let past = not_ended k place part le there here s m ends in omega (arith, past, m.1, over)

  -- the part ends before the next span begins
  pub none_before : (e : Span) → passed < length spans → (k place : ℕ) (part : Part) → from ≤ k → slice_get parts k ≡ Some part → part.end ≤ (get_or spans passed e).start
      → IsIn part place → Holds spans place → ⊥
  none_before e within k place part le there before here (s, m, starts, ends) =
      let past = not_ended k place part le there here s m ends in
      let x = ap (λ (t : Span). t.start) (same_read spans m.0 e s m.1 ∙ m.2) in
      omega (arith, span_starts_rise spans apart passed m.0 e past m.1, x, starts, here.1, before)
