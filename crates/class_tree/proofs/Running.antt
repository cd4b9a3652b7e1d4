-- Runs of places, as they grow and as a look-up along the parents goes by them.
use Rattle.std.proofs.Common.{◌≡◌, ℕ, zero, suc, ◌+◌, ◌-◌, ◌<◌, ◌≤◌, ◌⊎◌, Option, Some, None, List, [], ◌∷◌, ◌++◌, length, length-append, get_or, slice_get, min, sym, ap, subst, ◌∙◌, inl, inr, arith}
use Rattle.std.proofs.Math.Seq.{get_or-append_seam}
use Rattle.std.proofs.lemmas.List.{get_or_append_left, get_or_past}
use Rattle.std.proofs.lemmas.List.Elements.{Contains-get_or}
use Rattle.std.proofs.lemmas.Option.{slice_get_within}
use Rattle.class_rules.specs.declared.rows.ClassRow.{ClassRow}
use Rattle.class_rules.specs.Lookups.{Upwards, further}
use Rattle.class_rules.specs.Rows.{HasParent}
use Rattle.class_tree.specs.Runs.{IsRun}
use Rattle.class_order.specs.declared.spans.Span.{Span}
use Rattle.class_order.specs.Spans.{AreApart, Holds}
use Rattle.lists.proofs.Elements.{same_read, slice_get-push_cases}
use Rattle.lists.proofs.Places.{slice_get-there}

-- the runs of the places so far: `start` begins that of the last one, whose class is `last`
pub record AreRunsTo (classes : List ClassRow) (places tenants starts : List ℕ) (last : Option ℕ) (start : ℕ) : Type 0 where
  pub len : length starts ≡ length tenants
  pub placed : (p c : ℕ) → slice_get tenants p ≡ Some c → (c < length classes) × (get_or places c 0 ≡ p)
  pub begun : (p : ℕ) → get_or starts p 0 ≤ p
  pub each : (p : ℕ) → p < length tenants → IsRun classes tenants (get_or starts p 0) p
  pub begins : start ≤ length tenants
  pub going : (p : ℕ) → p + 1 ≡ length tenants → IsRun classes tenants start p
  pub stands : (p b : ℕ) → slice_get tenants p ≡ Some b → p + 1 ≡ length tenants → last ≡ Some b

below_or_at : (i n : ℕ) → i < n + 1 → (i < n) ⊎ (i ≡ n)
below_or_at i n h = grind arith

module _ (classes : List ClassRow) (places tenants starts : List ℕ) (last : Option ℕ) (start : ℕ) (are : AreRunsTo classes places tenants starts last start)
    (c next : ℕ) (known : c < length classes) (at : get_or places c 0 ≡ length tenants)
    (joins : (next ≡ length tenants) ⊎ ((next ≡ start) × ((b : ℕ) → last ≡ Some b → HasParent classes c b))) where
  -- a run of old places stays one
  kept : (from to : ℕ) → to < length tenants → IsRun classes tenants from to → IsRun classes (tenants ++ c ∷ []) from to
  kept from to within run p a b ge lt there after = elim (slice_get-push_cases tenants c b p there) [
    | inl old ↦ elim (slice_get-push_cases tenants c a (p + 1) after) [
      | inl old' ↦ run p a b ge lt old old'
      | inr new ↦ absurd (omega (arith, new.0, lt, within))
    ]
    | inr new ↦ absurd (omega (arith, new.0, lt, within))
  ]

  -- the run that ends with the class
  ends : IsRun classes (tenants ++ c ∷ []) next (length tenants)
  ends p a b ge lt there after = elim joins [
    | inl own ↦ absurd (omega (arith, own, ge, lt))
    | inr both ↦ elim (slice_get-push_cases tenants c b p there) [
      | inl old ↦ elim (slice_get-push_cases tenants c a (p + 1) after) [
        | inl old' ↦
            let h = slice_get_within tenants (p + 1) a old' in
            let to = slice_get-there tenants p (omega (arith, lt)) in
            before p a b ge both.0 old old'
        | inr new ↦ subst (λ k. HasParent classes k b) new.1 (both.1 b (are.stands p b old (omega (arith, new.0))))
      ]
      | inr new ↦ absurd (omega (arith, new.0, lt))
    ]
  ]
    where
      before : (p a b : ℕ) → next ≤ p → next ≡ start → slice_get tenants p ≡ Some b → slice_get tenants (p + 1) ≡ Some a → HasParent classes a b
      before p a b ge is there after =
          let h = slice_get_within tenants (p + 1) a after in
          let to = past (length tenants) h in
          are.going to.0 to.1 p a b (omega (arith, ge, is)) (omega (arith, h, to.1)) there after
        where
          past : (n : ℕ) → p + 1 < n → (k : ℕ) × (k + 1 ≡ n)
          past zero h = absurd (omega (arith, h))
          past (suc k) h = (k, omega arith)

  starts_at : (p : ℕ) → p < length tenants → get_or (starts ++ next ∷ []) p 0 ≡ get_or starts p 0
  starts_at p h = get_or_append_left starts (next ∷ []) 0 p (omega (arith, h, are.len))

  starts_last : get_or (starts ++ next ∷ []) (length tenants) 0 ≡ next
  starts_last = ap (λ n. get_or (starts ++ next ∷ []) n 0) (sym are.len) ∙ get_or-append_seam starts next [] 0

  grown : length (tenants ++ c ∷ []) ≡ length tenants + 1
  grown = length-append tenants (c ∷ [])

  within : next ≤ length tenants
  within = elim joins [ inl own ↦ omega (arith, own) | inr both ↦ omega (arith, both.0, are.begins) ]

  pub more_runs : AreRunsTo classes places (tenants ++ c ∷ []) (starts ++ next ∷ []) (Some c) next
  more_runs = record {
    len = omega (arith, length-append starts (next ∷ []), grown, are.len);
    placed = λ p k e. elim (slice_get-push_cases tenants c k p e) [
      | inl old ↦ are.placed p k old
      | inr new ↦ (subst (λ x. x < length classes) new.1 known, ap (λ x. get_or places x 0) (sym new.1) ∙ at ∙ sym new.0)
    ];
    begun = λ p. begun p (split p);
    each = λ p h. elim (below_or_at p (length tenants) (omega (arith, h, grown))) [
      | inl old ↦ subst (λ from. IsRun classes (tenants ++ c ∷ []) from p) (sym (starts_at p old)) (kept (get_or starts p 0) p old (are.each p old))
      | inr new ↦ subst (λ n. IsRun classes (tenants ++ c ∷ []) (get_or (starts ++ next ∷ []) n 0) n) (sym new)
          (subst (λ from. IsRun classes (tenants ++ c ∷ []) from (length tenants)) (sym starts_last) ends)
    ];
    begins = omega (arith, within, grown);
    going = λ p e. subst (IsRun classes (tenants ++ c ∷ []) next) (let is : length tenants ≡ p = omega (arith, e, grown) in is) ends;
    stands = λ p b e is. elim (slice_get-push_cases tenants c b p e) [
      | inl old ↦ absurd (omega (arith, slice_get_within tenants p b old, is, grown))
      | inr new ↦ ap Some new.1
    ];
  }
    where
      split : (p : ℕ) → (p < length tenants) ⊎ ((p ≡ length tenants) ⊎ (length tenants < p))
      split p = grind arith

      begun : (p : ℕ) → (p < length tenants) ⊎ ((p ≡ length tenants) ⊎ (length tenants < p)) → get_or (starts ++ next ∷ []) p 0 ≤ p
      begun p (inl h) = omega (arith, starts_at p h, are.begun p)
      begun p (inr (inl e)) = omega (arith, ap (λ n. get_or (starts ++ next ∷ []) n 0) e, starts_last, within, e)
      begun p (inr (inr h)) = omega (arith, get_or_past (starts ++ next ∷ []) p 0 (omega (arith, h, length-append starts (next ∷ []), are.len)))

-- where the classes of a run behind its place `from` give nothing, the look-up goes on from the class there
pub skip_run : (classes : List ClassRow) (At : ℕ → Option ℕ → Type 0) (tenants : List ℕ) (from n : ℕ) → IsRun classes tenants from (from + n)
    → ((p c : ℕ) → from < p → p ≤ from + n → slice_get tenants p ≡ Some c → At c None)
    → (c d : ℕ) (r : Option ℕ) → slice_get tenants (from + n) ≡ Some c → slice_get tenants from ≡ Some d → Upwards classes At d r → Upwards classes At c r
skip_run classes At tenants from zero run none c d r there first u =
    let at : slice_get tenants from ≡ Some c = ap (slice_get tenants) (let is : from ≡ from + 0 = omega arith in is) ∙ there in
    let same : d ≡ c = cc (at, first) in subst (λ k. Upwards classes At k r) same u
skip_run classes At tenants from (suc n) run none c d r there first u =
    let is : from + suc n ≡ (from + n) + 1 = omega arith in
    let at : slice_get tenants ((from + n) + 1) ≡ Some c = ap (slice_get tenants) (sym is) ∙ there in
    let b = slice_get-there tenants (from + n) (omega (arith, slice_get_within tenants _ c at)) in
    further (none (from + suc n) c (omega arith) (omega arith) there) (run (from + n) c b.0 (omega arith) (omega arith) b.1 at)
    (skip_run classes At tenants from n (λ p x y ge lt. run p x y ge (omega (arith, lt))) (λ p x gt le. none p x gt (omega (arith, le))) b.0 d r b.1 first u)

-- ---- the last place held

module _ (spans : List Span) (to after : ℕ) (d : Span) (last : ℕ) (is_last : last ≡ min to ((get_or spans (after - 1) d).end - 1)) (apart : AreApart spans) (some : 0 < after) (within : after ≤ length spans)
    (earlier : (k : ℕ) (e : Span) → k < after → (get_or spans k e).start ≤ to)
    (later : (k : ℕ) (e : Span) → after ≤ k → k < length spans → to < (get_or spans k e).start) where
  -- none of the places up to there stands behind the last span that begins among them
  held_before : (q : ℕ) → q ≤ to → Holds spans q → q < (get_or spans (after - 1) d).end
  held_before q le (s, m, from, lt) = by m.0 m.1 (same_read spans m.0 d s m.1 ∙ m.2) (split m.0)
    where
      split : (k : ℕ) → (k < after - 1) ⊎ ((k ≡ after - 1) ⊎ (after ≤ k))
      split k = let s = some in grind arith

      by : (k : ℕ) → k < length spans → get_or spans k d ≡ s → (k < after - 1) ⊎ ((k ≡ after - 1) ⊎ (after ≤ k)) → q < (get_or spans (after - 1) d).end
      by k h e (inl less) =
          let x = ap (λ (t : Span). t.end) e in
          omega (arith, lt, x, apart.apart k (after - 1) d less (omega (arith, some, within)), apart.filled (after - 1) d (omega (arith, some, within)))
      by k h e (inr (inl is)) = let x = ap (λ (t : Span). t.end) (ap (λ n. get_or spans n d) (sym is) ∙ e) in omega (arith, lt, x)
      by k h e (inr (inr past)) = let x = ap (λ (t : Span). t.start) e in absurd (omega (arith, later k d past h, x, from, le))

  pub held_below : (q : ℕ) → last < q → q ≤ to → Holds spans q → ⊥
  held_below q past le held = absurd (omega (arith, is_last, past, le, held_before q le held))

  pub held_last : Holds spans last
  held_last =
      let filled = apart.filled (after - 1) d (omega (arith, some, within)) in
      (get_or spans (after - 1) d, Contains-get_or spans (after - 1) d (omega (arith, some, within)), omega (arith, is_last, filled, earlier (after - 1) d (omega (arith, some))), omega (arith, is_last, filled))

-- none of the places is held where those up to the last are before the first span
pub held_none : (spans : List Span) (to : ℕ) → ((k : ℕ) (e : Span) → k < length spans → to < (get_or spans k e).start) → (q : ℕ) → q ≤ to → Holds spans q → ⊥
held_none spans to later q le (s, m, from, lt) = let x = ap (λ (t : Span). t.start) m.2 in absurd (omega (arith, from, x, le, later m.0 s m.1))
