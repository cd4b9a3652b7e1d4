-- The least classes of some spans, span by span.
use Rattle.std.proofs.Common.{◌≡◌, ℕ, ◌+◌, ◌<◌, ◌≤◌, ◌⊎◌, Option, Some, None, List, [], ◌∷◌, ◌++◌, length, length-append, get_or, slice_get, sym, ap, subst, ◌∙◌, inl, inr, arith}
use Rattle.std.proofs.Math.Seq.{get_or-append_seam}
use Rattle.std.proofs.lemmas.List.{get_or_append_left}
use Rattle.std.proofs.lemmas.Option.{get_or_from_slice_get, slice_get_within}
use Rattle.class_order.specs.declared.spans.Span.{Span}
use Rattle.object_ranges.specs.Chosen.{AreLeasts}
use Rattle.object_ranges.specs.Marks.{IsLeastOf, StandsIn}

-- of the first spans
pub record AreLeastsTo (marks : List (Option ℕ)) (spans : List Span) (n : ℕ) (leasts : List (Option ℕ)) : Type 0 where
  pub len : length leasts ≡ n
  pub within : n ≤ length spans
  pub each : (k : ℕ) (span : Span) → k < n → slice_get spans k ≡ Some span → IsLeastOf (StandsIn marks span.start span.end) (get_or leasts k None)

pub leasts_none : (marks : List (Option ℕ)) (spans : List Span) → AreLeastsTo marks spans 0 []
leasts_none marks spans = record { len = omega arith; within = omega arith; each = λ k span lt e. absurd (omega (arith, lt)) }

below_or_at : (i n : ℕ) → i < n + 1 → (i < n) ⊎ (i ≡ n)
below_or_at i n h = grind arith

pub leasts_more : (marks : List (Option ℕ)) (spans : List Span) (n : ℕ) (d : Span) (o : Option ℕ) (leasts : List (Option ℕ)) → n < length spans
    → IsLeastOf (StandsIn marks (get_or spans n d).start (get_or spans n d).end) o → AreLeastsTo marks spans n leasts → AreLeastsTo marks spans (n + 1) (leasts ++ o ∷ [])
leasts_more marks spans n d o leasts h is s = record {
  len = omega (arith, length-append leasts (o ∷ []), s.len);
  within = omega (arith, h);
  each = λ k span lt there. elim (below_or_at k n lt) [
    | inl less ↦ subst (IsLeastOf (StandsIn marks span.start span.end)) (sym (get_or_append_left leasts (o ∷ []) None k (omega (arith, less, s.len)))) (s.each k span less there)
    | inr at ↦
        let read : get_or spans n d ≡ span = ap (λ i. get_or spans i d) (sym at) ∙ get_or_from_slice_get spans k span d there in
        let last : get_or (leasts ++ o ∷ []) k None ≡ o = ap (λ i. get_or (leasts ++ o ∷ []) i None) (at ∙ sym s.len) ∙ get_or-append_seam leasts o [] None in
        subst (IsLeastOf (StandsIn marks span.start span.end)) (sym last) (subst (λ (t : Span). IsLeastOf (StandsIn marks t.start t.end) o) read is)
  ];
}

pub leasts_all : (marks : List (Option ℕ)) (spans : List Span) (n : ℕ) (leasts : List (Option ℕ)) → length spans ≤ n → AreLeastsTo marks spans n leasts → AreLeasts marks spans leasts
leasts_all marks spans n leasts over s = record {
  len = omega (arith, s.len, s.within, over);
  each = λ k span there. s.each k span (omega (arith, over, slice_get_within spans k span there)) there;
}
