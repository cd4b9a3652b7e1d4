-- Parts in order, and what is told of them when one more comes.
use Rattle.std.proofs.Common.{◌≡◌, ◌≢◌, ℕ, ◌+◌, ◌<◌, ◌≤◌, ◌⊎◌, Option, Some, List, [], ◌∷◌, ◌++◌, length, length-append, get_or, slice_get, sym, ap, subst, ◌∙◌, inl, inr, arith}
use Rattle.std.specs.List.{All}
use Rattle.std.proofs.Math.Seq.{get_or-append_seam}
use Rattle.std.proofs.lemmas.List.{get_or_append_left}
use Rattle.std.proofs.lemmas.List.Elements.{All-contains, All-push, Contains-append_left, Contains-push, Contains-push_cases}
use Rattle.std.proofs.lemmas.Option.{slice_get_within}
use Rattle.lists.proofs.Elements.{Contains-nil, slice_get-append_below}
use Rattle.lists.proofs.Places.{slice_get-append_left, slice_get-push, slice_get-pushed}
use Rattle.object_ranges.specs.declared.parts.Part.{Part}
use Rattle.object_ranges.specs.Marks.{Stands}
use Rattle.object_ranges.specs.declared.selection.Selection.{Selection}
use Rattle.object_ranges.specs.Parts.{AreInOrder, ArePartsTo, HasClass, IsIn, NeighboursDiffer, SelectAlike}

below_or : (a b : ℕ) → (a < b) ⊎ (b ≤ a)
below_or a b = grind arith

below_or_at : (i n : ℕ) → i < n + 1 → (i < n) ⊎ (i ≡ n)
below_or_at i n h = grind arith

-- ---- parts in order

pub in_order_none : AreInOrder []
in_order_none = record { filled = λ k d h. absurd (omega (arith, h)); apart = λ i j d lt h. absurd (omega (arith, h)) }

read_last : (parts : List Part) (t d : Part) → get_or (parts ++ t ∷ []) (length parts) d ≡ t
read_last parts t d = get_or-append_seam parts t [] d

pub in_order_push : (parts : List Part) (t : Part) → AreInOrder parts → All (λ (u : Part). u.end ≤ t.start) parts → t.start ≤ t.end → AreInOrder (parts ++ t ∷ [])
in_order_push parts t a before filled = record {
  filled = All-push (λ (u : Part). u.start ≤ u.end) parts t a.filled filled;
  apart = λ i j d lt h. by i j d lt (below_or_at j (length parts) (omega (arith, h, length-append parts (t ∷ []))));
}
  where
    by : (i j : ℕ) (d : Part) → i < j → (j < length parts) ⊎ (j ≡ length parts) → (get_or (parts ++ t ∷ []) i d).end ≤ (get_or (parts ++ t ∷ []) j d).start
    by i j d lt (inl h) =
        let x = ap (λ (u : Part). u.end) (get_or_append_left parts (t ∷ []) d i (omega arith)) in
        let y = ap (λ (u : Part). u.start) (get_or_append_left parts (t ∷ []) d j h) in
        omega (arith, a.apart i j d lt h, x, y)
    by i j d lt (inr e) =
        let x = ap (λ (u : Part). u.end) (get_or_append_left parts (t ∷ []) d i (omega arith)) in
        let y = ap (λ (u : Part). u.start) (ap (λ k. get_or (parts ++ t ∷ []) k d) e ∙ read_last parts t d) in
        omega (arith, before i d (omega arith), x, y)

module _ (parts : List Part) (t : Part) (a : AreInOrder (parts ++ t ∷ [])) where
  pub in_order_before : All (λ (u : Part). u.end ≤ t.start) parts
  in_order_before i d h =
      let x = ap (λ (u : Part). u.end) (get_or_append_left parts (t ∷ []) d i h) in
      let y = ap (λ (u : Part). u.start) (read_last parts t d) in
      omega (arith, a.apart i (length parts) d h (omega (arith, length-append parts (t ∷ []))), x, y)

  pub in_order_last : t.start ≤ t.end
  in_order_last = All-contains (λ (u : Part). u.start ≤ u.end) (parts ++ t ∷ []) t a.filled (Contains-push parts t)

  pub in_order_init : AreInOrder parts
  in_order_init = record {
    filled = λ k d h. let x = get_or_append_left parts (t ∷ []) d k h in subst (λ (u : Part). u.start ≤ u.end) x (a.filled k d (omega (arith, h, length-append parts (t ∷ []))));
    apart = λ i j d lt h.
        let x = ap (λ (u : Part). u.end) (get_or_append_left parts (t ∷ []) d i (omega arith)) in
        let y = ap (λ (u : Part). u.start) (get_or_append_left parts (t ∷ []) d j h) in
        omega (arith, a.apart i j d lt (omega (arith, h, length-append parts (t ∷ []))), x, y);
  }

-- ---- neighbours

pub differ_push : (parts : List Part) (t : Part) → NeighboursDiffer parts
    → ((i : ℕ) (part : Part) → i + 1 ≡ length parts → slice_get parts i ≡ Some part → part.selection ≢ t.selection) → NeighboursDiffer (parts ++ t ∷ [])
differ_push parts t differ last i part next at_part at_next = elim (slice_get-pushed parts t (i + 1) next at_next) [
  | inl was ↦ differ i part next (sym (slice_get-append_below parts (t ∷ []) i (omega (arith, slice_get_within parts (i + 1) next was))) ∙ at_part) was
  | inr is ↦ λ same. last i part is.0 (sym (slice_get-append_below parts (t ∷ []) i (omega (arith, is.0))) ∙ at_part) (same ∙ ap (λ (u : Part). u.selection) is.1)
]

-- a last part that selects otherwise
pub last_differs : (parts : List Part) (last t : Part) → last.selection ≢ t.selection
    → (i : ℕ) (part : Part) → i + 1 ≡ length (parts ++ last ∷ []) → slice_get (parts ++ last ∷ []) i ≡ Some part → part.selection ≢ t.selection
last_differs parts last t differ i part at_end at_part = elim (slice_get-pushed parts last i part at_part) [
  | inl was ↦ absurd (omega (arith, at_end, length-append parts (last ∷ []), slice_get_within parts i part was))
  | inr is ↦ λ same. differ (ap (λ (u : Part). u.selection) (sym is.1) ∙ same)
]

module _ (parts : List Part) (t : Part) (differ : NeighboursDiffer (parts ++ t ∷ [])) where
  pub differ_init : NeighboursDiffer parts
  differ_init i part next at_part at_next = differ i part next (slice_get-append_left parts (t ∷ []) i part at_part) (slice_get-append_left parts (t ∷ []) (i + 1) next at_next)

  pub differ_last : (i : ℕ) (part : Part) → i + 1 ≡ length parts → slice_get parts i ≡ Some part → part.selection ≢ t.selection
  differ_last i part last at_part = differ i part t (slice_get-append_left parts (t ∷ []) i part at_part) (ap (slice_get (parts ++ t ∷ [])) last ∙ slice_get-push parts t)

-- ---- one part more

pub parts_none : (marks : List (Option ℕ)) (select : ℕ → Selection) → ArePartsTo marks select 0 []
parts_none marks select = record {
  in_order = in_order_none;
  up_to = λ k d h. absurd (omega (arith, h));
  right = λ part m. absurd (Contains-nil part m);
  all = λ place class lt s. absurd (omega (arith, lt));
  has_class = λ part m. absurd (Contains-nil part m);
  differ = λ i part next at_part at_next. absurd (omega (arith, slice_get_within {A = Part} [] i part at_part));
}

module _ (marks : List (Option ℕ)) (select : ℕ → Selection) (part : Part) (filled : part.start ≤ part.end) (gives : SelectAlike marks select part)
    (old : List Part) (s : ArePartsTo marks select part.start old) where
  -- no class stands in it
  pub parts_skipped : ((place class : ℕ) → IsIn part place → Stands marks place class → ⊥) → ArePartsTo marks select part.end old
  parts_skipped empty = record {
    in_order = s.in_order;
    up_to = λ k d h. let le = s.up_to k d h in omega (arith, le, filled);
    right = s.right;
    all = λ place class lt st. elim (below_or place part.start) [
      | inl earlier ↦ s.all place class earlier st
      | inr here ↦ absurd (empty place class (here, lt) st)
    ];
    has_class = s.has_class;
    differ = s.differ;
  }

  -- it comes behind the others
  pub parts_pushed : HasClass marks part → ((i : ℕ) (last : Part) → i + 1 ≡ length old → slice_get old i ≡ Some last → last.selection ≢ part.selection)
      → ArePartsTo marks select part.end (old ++ part ∷ [])
  parts_pushed has differs = record {
    in_order = in_order_push old part s.in_order s.up_to filled;
    up_to = All-push (λ (u : Part). u.end ≤ part.end) old part (λ k d h. let le = s.up_to k d h in omega (arith, le, filled)) (omega arith);
    right = λ u m. elim (Contains-push_cases old part u m) [
      | inl was ↦ s.right u was
      | inr is ↦ subst (SelectAlike marks select) is gives
    ];
    all = λ place class lt st. elim (below_or place part.start) [
      | inl earlier ↦ let p = s.all place class earlier st in (p.0, Contains-append_left old (part ∷ []) p.0 p.1, p.2)
      | inr here ↦ (part, Contains-push old part, (here, lt))
    ];
    has_class = λ u m. elim (Contains-push_cases old part u m) [
      | inl was ↦ s.has_class u was
      | inr is ↦ subst (HasClass marks) is has
    ];
    differ = differ_push old part s.differ differs;
  }

-- the last part goes on
module _ (marks : List (Option ℕ)) (select : ℕ → Selection) (part : Part) (filled : part.start ≤ part.end) (gives : SelectAlike marks select part)
    (front : List Part) (last : Part) (same : last.selection ≡ part.selection) (s : ArePartsTo marks select part.start (front ++ last ∷ [])) where
  abbrev pub wider : Part
  wider = record last { end = part.end }

  last_end : last.end ≤ part.start
  last_end = All-contains (λ (u : Part). u.end ≤ part.start) (front ++ last ∷ []) last s.up_to (Contains-push front last)

  last_filled : last.start ≤ last.end
  last_filled = in_order_last front last s.in_order

  before : All (λ (u : Part). u.end ≤ last.start) front
  before = in_order_before front last s.in_order

  -- no class stands between the two
  between : (place class : ℕ) → last.end ≤ place → place < part.start → Stands marks place class → ⊥
  between place class le lt st =
      let p = s.all place class lt st in
      elim (Contains-push_cases front last p.0 p.1) [
        | inl was ↦ let low = All-contains (λ (u : Part). u.end ≤ last.start) front p.0 before was in absurd (omega (arith, low, p.2.1, le, last_filled))
        | inr is ↦ let e = ap (λ (u : Part). u.end) is in absurd (omega (arith, e, p.2.1, le))
      ]

  wider_gives : SelectAlike marks select wider
  wider_gives place class here st = elim (below_or place last.end) [
    | inl in_last ↦ s.right last (Contains-push front last) place class (here.0, in_last) st
    | inr past ↦ elim (below_or place part.start) [
      | inl lt ↦ absurd (between place class past lt st)
      | inr from ↦ gives place class (from, here.1) st ∙ sym same
    ]
  ]

  pub parts_widened : ArePartsTo marks select part.end (front ++ wider ∷ [])
  parts_widened = record {
    in_order = in_order_push front wider (in_order_init front last s.in_order) before (omega (arith, last_filled, last_end, filled));
    up_to = All-push (λ (u : Part). u.end ≤ part.end) front wider (λ k d h. let le = before k d h in omega (arith, le, last_filled, last_end, filled)) (omega arith);
    right = λ u m. elim (Contains-push_cases front wider u m) [
      | inl was ↦ s.right u (Contains-append_left front (last ∷ []) u was)
      | inr is ↦ subst (SelectAlike marks select) is wider_gives
    ];
    all = λ place class lt st. elim (below_or place part.start) [
      | inl earlier ↦ (let p = s.all place class earlier st in elim (Contains-push_cases front last p.0 p.1) [
        | inl was ↦ (p.0, Contains-append_left front (wider ∷ []) p.0 was, p.2)
        | inr is ↦ let e = ap (λ (u : Part). u.start) is in (wider, Contains-push front wider, (omega (arith, e, p.2.0), lt))
      ])
      | inr here ↦ (wider, Contains-push front wider, (omega (arith, here, last_filled, last_end), lt))
    ];
    has_class = λ u m. elim (Contains-push_cases front wider u m) [
      | inl was ↦ s.has_class u (Contains-append_left front (last ∷ []) u was)
      | inr is ↦
          let old = s.has_class last (Contains-push front last) in
          subst (HasClass marks) is (old.0, old.1, (old.2.0, omega (arith, old.2.1, last_end, filled)), old.3)
    ];
    differ = differ_push front wider (differ_init front last s.differ) (differ_last front last s.differ);
  }
