-- The least class of a part and of some spans.
use Rattle.std.proofs.Common.{◌≡◌, ℕ, ◌+◌, ◌-◌, ◌<◌, ◌≤◌, ◌⊎◌, Option, Some, None, List, length, get_or, slice_get, refl, sym, ap, subst, ◌∙◌, inl, inr, arith}
use Rattle.std.specs.List.{Contains}
use Rattle.std.proofs.lemmas.Bool.{cases_eq}
use Rattle.std.proofs.lemmas.List.Elements.{Contains-get_or}
use Rattle.std.proofs.lemmas.Option.{get_or_from_slice_get, slice_get-get_or, slice_get_within}
use Rattle.class_order.specs.declared.spans.Span.{Span}
use Rattle.class_order.specs.Spans.{AreApart}
use Rattle.lists.proofs.Elements.{same_read}
use Rattle.object_ranges.specs.declared.parts.Part.{Part}
use Rattle.object_ranges.specs.Chosen.{AreLeasts, StandsInBoth, StandsInClip}
use Rattle.object_ranges.specs.Marks.{IsLeastOf, StandsIn, earlier}
use Rattle.object_ranges.specs.Parts.{IsIn}
use Rattle.object_ranges.proofs.Heaped.{read_stands, stands_read}
use Rattle.object_ranges.proofs.Leasts.{least_both, least_under}

below_or : (a b : ℕ) → (a < b) ⊎ (b ≤ a)
below_or a b = grind arith

-- the spans before an index end before the part or where it begins, and those from another one on begin behind it
module _ (marks : List (Option ℕ)) (spans : List Span) (part : Part) (from to : ℕ)
    (before : (k : ℕ) (d : Span) → k < from → k < length spans → (get_or spans k d).end ≤ part.start)
    (behind : (k : ℕ) (d : Span) → to ≤ k → k < length spans → part.end ≤ (get_or spans k d).start) where
  -- a span that holds a place of the part is none of them
  meets : (place : ℕ) (s : Span) (m : Contains spans s) → IsIn part place → s.start ≤ place → place < s.end → (from ≤ m.0) × (m.0 < to)
  meets place s m here starts ends = (
    elim (below_or m.0 from) [
      | inl lt ↦ let x = ap (λ (t : Span). t.end) m.2 in absurd (omega (arith, before m.0 s lt m.1, x, here.0, ends))
      | inr le ↦ le
    ],
    elim (below_or m.0 to) [
      | inl lt ↦ lt
      | inr le ↦ let x = ap (λ (t : Span). t.start) m.2 in absurd (omega (arith, behind m.0 s le m.1, x, here.1, starts))
    ],
  )

  pub none_meets : to ≤ from → (class : ℕ) → StandsInBoth marks spans part class → ⊥
  none_meets none class (place, here, (s, m, starts, ends), st) = let w = meets place s m here starts ends in omega (arith, none, w.0, w.1)

  -- the first and the last span, and those between them
  module _ (apart : AreApart spans) (leasts : List (Option ℕ)) (are : AreLeasts marks spans leasts) (some : from < to) (within : to ≤ length spans) (d e : Span)
      (first_meets : part.start < (get_or spans from d).end) (last_meets : (get_or spans (to - 1) e).start < part.end) where
    abbrev first : Span
    first = get_or spans from d

    abbrev last : Span
    last = get_or spans (to - 1) e

    abbrev Between : ℕ → Type 0
    Between class = (k : ℕ) × (s : Span) × (from < k) × (k + 1 < to) × (slice_get spans k ≡ Some s) × StandsIn marks s.start s.end class

    abbrev AtEnds : ℕ → Type 0
    AtEnds class = StandsInClip marks part first class ⊎ StandsInClip marks part last class

    between_least : (o : Option ℕ) → IsLeastOf (StandsIn leasts (from + 1) (to - 1)) o → IsLeastOf Between o
    between_least o is = least_under (StandsIn leasts (from + 1) (to - 1)) Between down up o is
      where
        down : (n : ℕ) → StandsIn leasts (from + 1) (to - 1) n → Between n
        down n (k, low, high, st) =
            let h : k < length spans = omega (arith, slice_get_within leasts k (Some n) st, are.len) in
            let there = slice_get-get_or spans k d h in
            let least = subst (IsLeastOf (StandsIn marks (get_or spans k d).start (get_or spans k d).end)) (read_stands leasts k n st) (are.each k (get_or spans k d) there) in
            (k, get_or spans k d, omega (arith, low), omega (arith, high), there, least.holds)

        up : (n : ℕ) → Between n → (m : ℕ) × (m ≤ n) × StandsIn leasts (from + 1) (to - 1) m
        up n (k, s, low, high, there, st) = by (get_or leasts k None) refl (are.each k s there)
          where
            by : (o : Option ℕ) → get_or leasts k None ≡ o → IsLeastOf (StandsIn marks s.start s.end) o → (m : ℕ) × (m ≤ n) × StandsIn leasts (from + 1) (to - 1) m
            by None read none = absurd (none n st)
            by (Some m) read least = (
              m,
              elim (below_or n m) [
                | inl lt ↦ absurd (least.first n lt st)
                | inr le ↦ le
              ],
              (k, omega (arith, low), omega (arith, high), stands_read leasts k m read),
            )

    ends_least : (a b : Option ℕ) → IsLeastOf (StandsInClip marks part first) a → IsLeastOf (StandsInClip marks part last) b → IsLeastOf AtEnds (earlier a b)
    ends_least a b = least_both (StandsInClip marks part first) (StandsInClip marks part last) AtEnds (λ n r. r) (λ n p. inl p) (λ n q. inr q) a b

    split : (n : ℕ) → StandsInBoth marks spans part n → Between n ⊎ AtEnds n
    split n (place, here, (s, m, starts, ends), st) =
        let w = meets place s m here starts ends in
        elim (cases_eq m.0 from) [
          | inl at ↦
              let is : first ≡ s = same_read spans from d s (omega (arith, some, within)) ∙ ap (λ k. get_or spans k s) (sym at) ∙ m.2 in
              let x = ap (λ (t : Span). t.start) is in
              let y = ap (λ (t : Span). t.end) is in
              inr (inl (place, omega (arith, here.0, starts, x), omega (arith, here.1, ends, y), st))
          | inr not_first ↦ elim (cases_eq m.0 (to - 1)) [
            | inl at ↦
                let is : last ≡ s = same_read spans (to - 1) e s (omega (arith, some, within)) ∙ ap (λ k. get_or spans k s) (sym at) ∙ m.2 in
                let x = ap (λ (t : Span). t.start) is in
                let y = ap (λ (t : Span). t.end) is in
                inr (inr (place, omega (arith, here.0, starts, x), omega (arith, here.1, ends, y), st))
            | inr not_last ↦ inl (m.0, s, omega (arith, w.0, not_first), omega (arith, w.1, not_last), slice_get-get_or spans m.0 s m.1 ∙ ap Some m.2, (place, starts, ends, st))
          ]
        ]

    from_between : (n : ℕ) → Between n → StandsInBoth marks spans part n
    from_between n (k, s, low, high, there, (place, starts, ends, st)) =
        let h = slice_get_within spans k s there in
        let is = get_or_from_slice_get spans k s d there in
        let x = ap (λ (t : Span). t.start) is in
        let also = get_or_from_slice_get spans k s e there in
        let y = ap (λ (t : Span). t.end) also in (
          place,
          (
            omega (arith, first_meets, apart.apart from k d low h, x, starts),
            omega (arith, last_meets, apart.apart k (to - 1) e (omega (arith, high)) (omega (arith, some, within)), y, ends),
          ),
          (s, (k, h, get_or_from_slice_get spans k s s there), starts, ends),
          st,
        )

    from_ends : (n : ℕ) → AtEnds n → StandsInBoth marks spans part n
    from_ends n (inl (place, low, high, st)) =
        (place, (omega (arith, low), omega (arith, high)), (first, Contains-get_or spans from d (omega (arith, some, within)), omega (arith, low), omega (arith, high)), st)
    from_ends n (inr (place, low, high, st)) =
        (place, (omega (arith, low), omega (arith, high)), (last, Contains-get_or spans (to - 1) e (omega (arith, some, within)), omega (arith, low), omega (arith, high)), st)

    pub least_meets : (o a b : Option ℕ) → IsLeastOf (StandsIn leasts (from + 1) (to - 1)) o → IsLeastOf (StandsInClip marks part first) a → IsLeastOf (StandsInClip marks part last) b
        → IsLeastOf (StandsInBoth marks spans part) (earlier o (earlier a b))
    least_meets o a b inner x y =
        least_both Between AtEnds (StandsInBoth marks spans part) split from_between from_ends o (earlier a b) (between_least o inner) (ends_least a b x y)
