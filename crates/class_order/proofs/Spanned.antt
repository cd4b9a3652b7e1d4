-- Spans that are joined hold the same places.
use Rattle.std.proofs.Common.{◌≡◌, ℕ, ◌+◌, ◌-◌, ◌<◌, ◌≤◌, ◌⊎◌, ◌↔◌, max, Some, List, [], ◌∷◌, ◌++◌, length, length-append, get_or, slice_get, take, sym, ap, subst, ◌∙◌, inl, inr, arith}
use Rattle.std.specs.List.{Contains}
use Rattle.std.specs.List.Sorted.{IsPermutation, IsNonDecreasingBy}
use Rattle.std.proofs.Math.Seq.{get_or-append_seam}
use Rattle.std.proofs.lemmas.List.{get_or_append_left}
use Rattle.std.proofs.lemmas.Option.{get_or_from_slice_get}
use Rattle.std.proofs.lemmas.List.Elements.{Contains-push, Contains-push_cases, Contains-append_left, Contains-append_right, Contains-append_cases, Contains-get_or, All-push, All-contains}
use Rattle.std.proofs.lemmas.List.Sorted.{Contains-permutation, IsPermutation-sym}
use Rattle.class_order.specs.declared.spans.Span.{Span}
use Rattle.class_order.specs.Spans.{AreApart, AreFilled, Holds}
use Rattle.lists.proofs.Elements.{Contains-at, Contains-nil, Contains-take_more, same_read}

pub holds_none : (p : ℕ) → Holds [] p → ⊥
holds_none p h = Contains-nil h.0 h.1

pub holds_left : (xs ys : List Span) (p : ℕ) → Holds xs p → Holds (xs ++ ys) p
holds_left xs ys p (s, m, a, b) = (s, Contains-append_left xs ys s m, a, b)

pub holds_right : (xs ys : List Span) (p : ℕ) → Holds ys p → Holds (xs ++ ys) p
holds_right xs ys p (s, m, a, b) = (s, Contains-append_right xs ys s m, a, b)

pub holds_cases : (xs ys : List Span) (p : ℕ) → Holds (xs ++ ys) p → Holds xs p ⊎ Holds ys p
holds_cases xs ys p (s, m, a, b) = elim (Contains-append_cases xs ys s m) [ inl l ↦ inl (s, l, a, b) | inr r ↦ inr (s, r, a, b) ]

pub holds_push : (xs : List Span) (s : Span) (p : ℕ) → s.start ≤ p → p < s.end → Holds (xs ++ s ∷ []) p
holds_push xs s p a b = (s, Contains-push xs s, a, b)

pub holds_push_cases : (xs : List Span) (s : Span) (p : ℕ) → Holds (xs ++ s ∷ []) p → Holds xs p ⊎ ((s.start ≤ p) × (p < s.end))
holds_push_cases xs s p (t, m, a, b) = elim (Contains-push_cases xs s t m) [
  | inl old ↦ inl (t, old, a, b)
  | inr at ↦ inr (subst (λ (u : Span). (u.start ≤ p) × (p < u.end)) (sym at) (a, b))
]

pub holds_permutation : (xs ys : List Span) → IsPermutation xs ys → (p : ℕ) → Holds ys p ↔ Holds xs p
holds_permutation xs ys perm p = (
  λ (s, m, a, b). (s, Contains-permutation ys xs s (IsPermutation-sym xs ys perm) m, a, b),
  λ (s, m, a, b). (s, Contains-permutation xs ys s perm m, a, b),
)

-- ---- spans in order

pub apart_none : AreApart []
apart_none = record { filled = λ k d h. absurd (omega (arith, h)); apart = λ i j d lt h. absurd (omega (arith, h)) }

below_or_at : (i n : ℕ) → i < n + 1 → (i < n) ⊎ (i ≡ n)
below_or_at i n h = grind arith

-- what the last span of a list with one more is
read_last : (xs : List Span) (s d : Span) → get_or (xs ++ s ∷ []) (length xs) d ≡ s
read_last xs s d = get_or-append_seam xs s [] d

pub apart_push : (xs : List Span) (s : Span) → AreApart xs → s.start < s.end → ((i : ℕ) (d : Span) → i < length xs → (get_or xs i d).end < s.start) → AreApart (xs ++ s ∷ [])
apart_push xs s a filled before = record {
  filled = All-push (λ (t : Span). t.start < t.end) xs s a.filled filled;
  apart = λ i j d lt h. by i j d lt (below_or_at j (length xs) (omega (arith, h, length-append xs (s ∷ []))));
}
  where
    by : (i j : ℕ) (d : Span) → i < j → (j < length xs) ⊎ (j ≡ length xs) → (get_or (xs ++ s ∷ []) i d).end < (get_or (xs ++ s ∷ []) j d).start
    by i j d lt (inl h) =
        let x = ap (λ (t : Span). t.end) (get_or_append_left xs (s ∷ []) d i (omega arith)) in
        let y = ap (λ (t : Span). t.start) (get_or_append_left xs (s ∷ []) d j h) in
        omega (arith, a.apart i j d lt h, x, y)
    by i j d lt (inr e) =
        let x = ap (λ (t : Span). t.end) (get_or_append_left xs (s ∷ []) d i (omega arith)) in
        let y = ap (λ (t : Span). t.start) (ap (λ k. get_or (xs ++ s ∷ []) k d) e ∙ read_last xs s d) in
        omega (arith, before i d (omega arith), x, y)

pub apart_before : (xs : List Span) (s : Span) → AreApart (xs ++ s ∷ []) → (i : ℕ) (d : Span) → i < length xs → (get_or xs i d).end < s.start
apart_before xs s a i d h =
    let x = ap (λ (t : Span). t.end) (get_or_append_left xs (s ∷ []) d i h) in
    let y = ap (λ (t : Span). t.start) (read_last xs s d) in
    omega (arith, a.apart i (length xs) d h (omega (arith, length-append xs (s ∷ []))), x, y)

pub filled_last : (xs : List Span) (s : Span) → AreApart (xs ++ s ∷ []) → s.start < s.end
filled_last xs s a = All-contains (λ (t : Span). t.start < t.end) (xs ++ s ∷ []) s a.filled (Contains-push xs s)

pub apart_init : (xs : List Span) (s : Span) → AreApart (xs ++ s ∷ []) → AreApart xs
apart_init xs s a = record {
  filled = λ k d h. let x = get_or_append_left xs (s ∷ []) d k h in subst (λ (t : Span). t.start < t.end) x (a.filled k d (omega (arith, h, length-append xs (s ∷ []))));
  apart = λ i j d lt h.
      let x = ap (λ (t : Span). t.end) (get_or_append_left xs (s ∷ []) d i (omega arith)) in
      let y = ap (λ (t : Span). t.start) (get_or_append_left xs (s ∷ []) d j h) in
      omega (arith, a.apart i j d lt (omega (arith, h, length-append xs (s ∷ []))), x, y);
}

-- ---- joining them

-- the first i of the sorted spans are joined
pub record IsJoined (sorted : List Span) (i : ℕ) (joined : List Span) (last : Span) : Type 0 where
  pub apart : AreApart (joined ++ last ∷ [])
  pub from : (p : ℕ) → Holds (joined ++ last ∷ []) p → Holds sorted p
  pub held : (p : ℕ) → Holds (take i sorted) p → Holds (joined ++ last ∷ []) p
  pub low : (j : ℕ) (d : Span) → i ≤ j → j < length sorted → last.start ≤ (get_or sorted j d).start

module _ (sorted : List Span) (filled : AreFilled sorted) (up : IsNonDecreasingBy (λ (s : Span). s.start) sorted) where
  pub joined_start : (first : Span) → slice_get sorted 0 ≡ Some first → IsJoined sorted 0 [] first
  joined_start first e = record {
    apart = apart_push [] first apart_none (All-contains (λ (t : Span). t.start < t.end) sorted first filled there) (λ i d h. absurd (omega (arith, h)));
    from = λ p h. elim (holds_push_cases [] first p h) [ inl none ↦ absurd (holds_none p none) | inr q ↦ (first, there, q.0, q.1) ];
    held = λ p h. absurd (holds_none p h);
    low = λ j d le h. let x = ap (λ (s : Span). s.start) (get_or_from_slice_get sorted 0 first d e) in omega (arith, up 0 j d le h, x);
  }
    where
      there : Contains sorted first
      there = Contains-at sorted 0 first e

  module _ (i : ℕ) (d : Span) (h : i < length sorted) (joined : List Span) (last : Span) (s : IsJoined sorted i joined last) where
    abbrev pub span : Span
    span = get_or sorted i d

    span_filled : span.start < span.end
    span_filled = filled i d h

    in_sorted : (p : ℕ) → span.start ≤ p → p < span.end → Holds sorted p
    in_sorted p a b = (span, Contains-get_or sorted i d h, a, b)

    take_cases : (p : ℕ) → Holds (take (i + 1) sorted) p → Holds (take i sorted) p ⊎ ((span.start ≤ p) × (p < span.end))
    take_cases p (t, m, a, b) = elim (Contains-take_more sorted i d t h m) [
      | inl old ↦ inl (t, old, a, b)
      | inr at ↦ inr (subst (λ (u : Span). (u.start ≤ p) × (p < u.end)) (sym at) (a, b))
    ]

    -- the next span touches the last one
    pub joined_more : span.start ≤ last.end → IsJoined sorted (i + 1) joined (record last { end = max last.end span.end })
    joined_more touch = record {
      apart = apart_push joined wider (apart_init joined last s.apart) (omega (arith, filled_last joined last s.apart)) (λ j e lt. apart_before joined last s.apart j e lt);
      from = λ p q. elim (holds_push_cases joined wider p q) [
        | inl old ↦ s.from p (holds_left joined (last ∷ []) p old)
        | inr r ↦ elim (below_or p last.end) [ inl lt ↦ s.from p (holds_push joined last p r.0 lt) | inr ge ↦ in_sorted p (omega (arith, ge, touch)) (omega (arith, ge, r.1)) ]
      ];
      held = λ p q. elim (take_cases p q) [
        | inl old ↦ elim (holds_push_cases joined last p (s.held p old)) [
          | inl kept ↦ holds_left joined (wider ∷ []) p kept
          | inr r ↦ holds_push joined wider p r.0 (omega (arith, r.1))
        ]
        | inr r ↦ holds_push joined wider p (omega (arith, r.0, s.low i d (omega arith) h)) (omega (arith, r.1))
      ];
      low = λ j e le lt. s.low j e (omega (arith, le)) lt;
    }
      where
        wider : Span
        wider = record last { end = max last.end span.end }

        below_or : (a b : ℕ) → (a < b) ⊎ (b ≤ a)
        below_or a b = grind arith

    -- it begins later
    pub joined_next : last.end < span.start → IsJoined sorted (i + 1) (joined ++ last ∷ []) span
    joined_next later = record {
      apart = apart_push (joined ++ last ∷ []) span s.apart span_filled before;
      from = λ p q. elim (holds_push_cases (joined ++ last ∷ []) span p q) [ inl old ↦ s.from p old | inr r ↦ in_sorted p r.0 r.1 ];
      held = λ p q. elim (take_cases p q) [ inl old ↦ holds_left (joined ++ last ∷ []) (span ∷ []) p (s.held p old) | inr r ↦ holds_push (joined ++ last ∷ []) span p r.0 r.1 ];
      low = λ j e le lt. subst (λ (u : Span). u.start ≤ (get_or sorted j e).start) (same_read sorted i e d h) (up i j e (omega (arith, le)) lt);
    }
      where
        before : (j : ℕ) (e : Span) → j < length (joined ++ last ∷ []) → (get_or (joined ++ last ∷ []) j e).end < span.start
        before j e lt = elim (below_or_at j (length joined) (omega (arith, lt, length-append joined (last ∷ [])))) [
          | inl less ↦
              let x = ap (λ (t : Span). t.end) (get_or_append_left joined (last ∷ []) e j less) in
              omega (arith, x, apart_before joined last s.apart j e less, filled_last joined last s.apart, later)
          | inr at ↦
              let x = ap (λ (t : Span). t.end) (ap (λ k. get_or (joined ++ last ∷ []) k e) at ∙ read_last joined last e) in
              omega (arith, x, later)
        ]

-- ---- a place among spans in order

-- the spans before `after` begin at the place or before it, the others later
pub holds_at : (spans : List Span) (p after : ℕ) (d : Span) → AreApart spans → 0 < after → after ≤ length spans
    → ((k : ℕ) (e : Span) → k < after → (get_or spans k e).start ≤ p)
    → ((k : ℕ) (e : Span) → after ≤ k → k < length spans → p < (get_or spans k e).start)
    → (p < (get_or spans (after - 1) d).end → Holds spans p) × (Holds spans p → p < (get_or spans (after - 1) d).end)
holds_at spans p after d a some within earlier later = (
  λ lt. (get_or spans (after - 1) d, Contains-get_or spans (after - 1) d (omega arith), earlier (after - 1) d (omega arith), lt),
  λ (s, m, le, lt). by s m.0 m.1 m.2 le lt (below_or_past m.0 (after - 1)),
)
  where
    below_or_past : (k n : ℕ) → (k < n) ⊎ (n ≤ k)
    below_or_past k n = grind arith

    at_or_past : (k n : ℕ) → n ≤ k → (k ≡ n) ⊎ (n + 1 ≤ k)
    at_or_past k n h = grind arith

    by : (s : Span) (k : ℕ) → k < length spans → get_or spans k s ≡ s → s.start ≤ p → p < s.end → (k < after - 1) ⊎ (after - 1 ≤ k) → p < (get_or spans (after - 1) d).end
    by s k h e le lt (inl less) =
        let x = ap (λ (t : Span). t.end) (same_read spans k d s h ∙ e) in
        absurd (omega (arith, lt, x, a.apart k (after - 1) d less (omega arith), earlier (after - 1) d (omega arith)))
    by s k h e le lt (inr past) = elim (at_or_past k (after - 1) past) [
      | inl at ↦ let x = ap (λ (t : Span). t.end) (ap (λ j. get_or spans j d) (sym at) ∙ same_read spans k d s h ∙ e) in omega (arith, lt, x)
      | inr more ↦ let x = ap (λ (t : Span). t.start) e in absurd (omega (arith, le, x, later k s (omega arith) h))
    ]

-- no span begins at the place or before it
pub holds_before : (spans : List Span) (p : ℕ) → ((k : ℕ) (e : Span) → k < length spans → p < (get_or spans k e).start) → Holds spans p → ⊥
holds_before spans p later (s, m, le, lt) = let x = ap (λ (t : Span). t.start) m.2 in absurd (omega (arith, le, x, later m.0 s m.1))

pub starts_rise : (spans : List Span) → AreApart spans → IsNonDecreasingBy (λ (s : Span). s.start) spans
starts_rise spans a i j d le h = elim (at_or_below i j le) [
  | inl at ↦ let x = ap (λ k. (get_or spans k d).start) at in omega (arith, x)
  | inr lt ↦ omega (arith, a.apart i j d lt h, a.filled i d (omega arith))
]
  where
    at_or_below : (i j : ℕ) → i ≤ j → (i ≡ j) ⊎ (i < j)
    at_or_below i j h = grind arith
