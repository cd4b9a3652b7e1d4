-- The holders of a stretch, and the places from which one of them is reached.
use Rattle.std.proofs.Common.{◌↔◌, ◌⊎◌, ℕ, ◌-◌, ◌<◌, ◌≤◌, List, [], ◌++◌, length, get_or, refl, ap, subst, inl, inr, arith}
use Rattle.std.proofs.lemmas.List.Elements.{All-append, Contains-get_or}
use Rattle.lists.proofs.Elements.{same_read}
use Rattle.class_order.specs.declared.spans.Span.{Span}
use Rattle.class_order.specs.Groups.{group}
use Rattle.class_order.specs.Spans.{AreApart, AreFilled, Holds}
use Rattle.class_order.proofs.Spanned.{holds_at, holds_before, holds_cases, holds_left, holds_none, holds_right}
use Rattle.class_rules.specs.Rows.{Rows, Sub}
use Rattle.class_rules.proofs.LawFacts.{path_append}
use Rattle.class_tree.specs.declared.layout.Layout.{Layout}
use Rattle.class_tree.specs.Layouts.{LaysOut}
use Rattle.default_turns.specs.declared.holders.Holder.{Holder}
use Rattle.default_turns.specs.Holders.{ArePlaced}
use Rattle.default_turns.specs.Stretches.{AddsPlaces, AddsReached, AreReached, IsFirstFrom, ReachesOne}
use Rattle.default_turns.specs.Hops.{AreBelow, IsEndOf}

pub below_or : (a b : ℕ) → (a < b) ⊎ (b ≤ a)
below_or a b = grind arith

-- ---- the end of a span

module _ (spans : List Span) (place after : ℕ) (apart : AreApart spans) (held : Holds spans place) (bound : after ≤ length spans)
    (earlier : (k : ℕ) (e : Span) → k < after → (get_or spans k e).start ≤ place)
    (later : (k : ℕ) (e : Span) → after ≤ k → k < length spans → place < (get_or spans k e).start) where
  pub some_before : 0 < after
  some_before = elim (below_or 0 after) [
    | inl some ↦ some
    | inr none ↦ absurd (holds_before spans place (λ k e h. later k e (omega (arith, none)) h) held)
  ]

  pub end_is : (d : Span) → IsEndOf spans place (get_or spans (after - 1) d).end
  end_is d = (
    get_or spans (after - 1) d,
    Contains-get_or spans (after - 1) d (omega (arith, some_before, bound)),
    earlier (after - 1) d (omega (arith, some_before)),
    (holds_at spans place after d apart some_before bound earlier later).1 held,
    refl,
  )

-- ---- what is added

module _ (rows : Rows) (places : List ℕ) where
  abbrev Adds : (ℕ → Type 0) → List Span → List Span → Type 0
  Adds Is old new = AddsPlaces rows places Is old new

  -- the places of spans
  pub adds_spans : (Is : ℕ → Type 0) (now spans : List Span) → AreFilled spans → ((c : ℕ) → c < length rows.classes → Holds spans (get_or places c 0) ↔ Is c) → Adds Is now (now ++ spans)
  adds_spans Is now spans some exact = record {
    filled = λ f. All-append (λ (s : Span). s.start < s.end) now spans f some;
    exact = λ c known. (
      λ held. elim (holds_cases now spans (get_or places c 0) held) [ inl was ↦ inl was | inr new ↦ inr ((exact c known).0 new) ],
      λ e. elim e [ inl was ↦ holds_left now spans (get_or places c 0) was | inr is ↦ holds_right now spans (get_or places c 0) ((exact c known).1 is) ],
    );
  }

  pub adds_as : (Is Other : ℕ → Type 0) (old new : List Span) → ((c : ℕ) → Other c ↔ Is c) → Adds Is old new → Adds Other old new
  adds_as Is Other old new same a = record {
    filled = a.filled;
    exact = λ c known. (
      λ held. elim ((a.exact c known).0 held) [ inl was ↦ inl was | inr is ↦ inr ((same c).1 is) ],
      λ e. elim e [ inl was ↦ (a.exact c known).1 (inl was) | inr is ↦ (a.exact c known).1 (inr ((same c).0 is)) ],
    );
  }

  -- one after the other
  pub adds_both : (One Two Both : ℕ → Type 0) (old mid new : List Span) → ((c : ℕ) → Both c ↔ (One c ⊎ Two c)) → Adds One old mid → Adds Two mid new → Adds Both old new
  adds_both One Two Both old mid new both a b = record {
    filled = λ f. b.filled (a.filled f);
    exact = λ c known. (
      λ held. elim ((b.exact c known).0 held) [
        | inl was ↦ elim ((a.exact c known).0 was) [ inl first ↦ inl first | inr one ↦ inr ((both c).1 (inl one)) ]
        | inr two ↦ inr ((both c).1 (inr two))
      ],
      λ e. elim e [
        | inl first ↦ (b.exact c known).1 (inl ((a.exact c known).1 (inl first)))
        | inr is ↦ elim ((both c).0 is) [
          | inl one ↦ (b.exact c known).1 (inl ((a.exact c known).1 (inr one)))
          | inr two ↦ (b.exact c known).1 (inr two)
        ]
      ],
    );
  }

-- ---- one holder after the other

module _ (rows : Rows) (holders : List Holder) where
  -- it stands at those indexes too
  reaches_too : (a b from to c : ℕ) (r : ReachesOne rows holders a b c) → from ≤ r.index → r.index < to → ReachesOne rows holders from to c
  reaches_too a b from to c r after before = record { holder = r.holder; index = r.index; after = after; before = before; listed = r.listed; is = r.is; reached = r.reached }

  module _ (places : List ℕ) (from : ℕ) where
    -- none stands between
    pub reached_none : (xs : List Span) → AddsReached rows places holders from from xs xs
    reached_none xs = record {
      filled = λ f. f;
      exact = λ c known. (λ h. inl h, λ e. elim e [ inl h ↦ h | inr r ↦ absurd (omega (arith, r.after, r.before)) ]);
    }

    -- those of one stretch, and of the one behind it
    pub reached_next : (at to : ℕ) (old mid new : List Span) → from ≤ at → at ≤ to → AddsReached rows places holders from at old mid → AddsReached rows places holders at to mid new
        → AddsReached rows places holders from to old new
    reached_next at to old mid new after before = adds_both rows places (ReachesOne rows holders from at) (ReachesOne rows holders at to) (ReachesOne rows holders from to) old mid new (λ c. (
      λ r. elim (below_or r.index at) [
        | inl early ↦ inl (reaches_too from to from at c r r.after early)
        | inr late ↦ inr (reaches_too from to at to c r late r.before)
      ],
      λ e. elim e [
        | inl r ↦ reaches_too from at from to c r r.after (omega (arith, r.before, before))
        | inr r ↦ reaches_too at to from to c r (omega (arith, r.after, after)) r.before
      ],
    ))

    -- there are no more
    pub reached_all : (at to : ℕ) (old new : List Span) → ((i : ℕ) → from ≤ i → i < at → i < to) → to ≤ at → AddsReached rows places holders from at old new
        → AddsReached rows places holders from to old new
    reached_all at to old new within past = adds_as rows places (ReachesOne rows holders from at) (ReachesOne rows holders from to) old new (λ c. (
      λ r. reaches_too from to from at c r r.after (omega (arith, r.before, past)),
      λ r. reaches_too from at from to c r r.after (within r.index r.after r.before),
    ))

    pub reached_added : (to : ℕ) (now spans : List Span) → AreReached rows places holders from to spans → AddsReached rows places holders from to now (now ++ spans)
    reached_added to now spans a = adds_spans rows places (ReachesOne rows holders from to) now spans a.apart.filled a.exact

    -- those of a stretch alone, made apart
    pub reached_apart : (to : ℕ) (spans united : List Span) → AddsReached rows places holders from to [] spans → AreApart united → ((p : ℕ) → Holds united p ↔ Holds spans p)
        → AreReached rows places holders from to united
    reached_apart to spans united adds apart same = record {
      apart = apart;
      exact = λ c known. (
        λ held. elim ((adds.exact c known).0 ((same _).0 held)) [ inl none ↦ absurd (holds_none _ none) | inr r ↦ r ],
        λ r. (same _).1 ((adds.exact c known).1 (inr r)),
      );
    }

-- ---- the run of a holder

module _ (rows : Rows) (layout : Layout) (laid : LaysOut rows layout) (holders : List Holder) (are : ArePlaced rows layout.places.now holders) (n : ℕ) (d : Holder)
    (h : n < length holders) where
  abbrev place_of : ℕ → ℕ
  place_of c = get_or layout.places.now c 0

  abbrev first : Holder
  first = get_or holders n d

  is_known : first.interface < length rows.classes
  is_known = are.known first (Contains-get_or holders n d h)

  module _ (end : ℕ) (ends : IsEndOf (group layout.reach.now (get_or holders n d).interface) (get_or holders n d).place end) (m : ℕ) (point : IsFirstFrom holders end m) where
    pub past_first : n < m
    past_first = elim (below_or n m) [
      | inl lt ↦ lt
      | inr le ↦ absurd (omega (arith, point.later n d le h, ends.3, ends.4))
    ]

    -- who stands in the run reaches the first one
    pub below_first : AreBelow rows holders n m
    below_first j e le lt =
        let in_all : j < length holders = omega (arith, lt, point.bound) in
        let o = get_or holders j e in
        let there = Contains-get_or holders j e in_all in
        let s = ends.0 in
        let same = ap (λ (u : Holder). u.place) (same_read holders j e d in_all) in
        let low : s.start ≤ place_of o.interface = omega (arith, ends.2, are.sorted n j d le in_all, same, are.placed o there) in
        let high : place_of o.interface < s.end = omega (arith, point.earlier j e lt, ends.4, are.placed o there) in
        let sub = (laid.reached.exact o.interface first.interface (are.known o there) is_known).0 (s, ends.1, low, high) in
        subst (λ (u : Holder). Sub rows o.interface u.interface) (same_read holders n d e h) sub

  -- what it hides itself is all that those below it hide
  pub reached_own : (next to : ℕ) → AreBelow rows holders n next → n < to → to ≤ next
      → AreReached rows layout.places.now holders n to (group layout.reach.now (get_or holders n d).interface)
  reached_own next to below past le = record {
    apart = laid.reached.apart first.interface;
    exact = λ c known. (
      λ held. record {
        holder = first;
        index = n;
        after = omega arith;
        before = past;
        listed = h;
        is = same_read holders n first d h;
        reached = (laid.reached.exact c first.interface known is_known).0 held;
      },
      λ r.
          let under = below r.index r.holder r.after (omega (arith, r.before, le)) in
          let from_it = subst (λ (u : Holder). Sub rows u.interface (get_or holders n r.holder).interface) r.is under in
          let to_first = subst (λ (u : Holder). Sub rows r.holder.interface u.interface) (same_read holders n r.holder d h) from_it in
          (laid.reached.exact c first.interface known is_known).1 (path_append r.reached to_first),
    );
  }
