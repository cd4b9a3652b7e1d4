-- The places from which the methods of an interface are hidden.
use Rattle.std.proofs.Common.{◌≡◌, ◌↔◌, ◌⊎◌, ℕ, ◌+◌, ◌<◌, ◌≤◌, List, [], length, get_or, take, max, min, sym, ap, subst, ◌∙◌, inl, inr, arith}
use Rattle.std.specs.List.{Contains}
use Rattle.lists.proofs.Elements.{Contains-nil, Contains-take_kept, Contains-take_last, Contains-take_more}
use Rattle.class_order.specs.declared.spans.Span.{Span}
use Rattle.class_order.specs.Groups.{group}
use Rattle.class_order.specs.Spans.{AreFilled, Holds}
use Rattle.class_order.proofs.Spanned.{holds_none}
use Rattle.class_rules.specs.Rows.{Rows}
use Rattle.class_tree.specs.declared.layout.Layout.{Layout}
use Rattle.class_tree.specs.Layouts.{LaysOut}
use Rattle.default_turns.specs.declared.holders.Holder.{Holder}
use Rattle.default_turns.specs.Hiding.{AddsHidden, IsHidden, ReachesIn}
use Rattle.default_turns.specs.Holders.{ArePlaced}
use Rattle.default_turns.specs.Stretches.{AddsReached, IsFirstFrom, ReachesOne}
use Rattle.default_turns.proofs.Covered.{adds_both, below_or}

-- ---- the holders in a span, before the interface and behind it

module _ (rows : Rows) (layout : Layout) (laid : LaysOut rows layout) (holders : List Holder) (are : ArePlaced rows layout.places.now holders) (interface : ℕ)
    (is_class : interface < length rows.classes) (span : Span) (from to upto behind : ℕ) (is_from : IsFirstFrom holders span.start from) (is_to : IsFirstFrom holders span.end to)
    (is_upto : IsFirstFrom holders (get_or layout.places.now interface 0) upto) (is_behind : IsFirstFrom holders (get_or layout.places.now interface 0 + 1) behind) where
  abbrev place : ℕ
  place = get_or layout.places.now interface 0

  abbrev Before : ℕ → Type 0
  Before c = ReachesOne rows holders from (min upto to) c

  abbrev Behind : ℕ → Type 0
  Behind c = ReachesOne rows holders (max behind from) to c

  place_at : (i : ℕ) (h : Holder) → get_or holders i h ≡ h → (get_or holders i h).place ≡ h.place
  place_at i h e = ap (λ (u : Holder). u.place) e

  from_index : (i : ℕ) (h : Holder) → i < length holders → get_or holders i h ≡ h → span.start ≤ h.place → from ≤ i
  from_index i h lt e low = elim (below_or i from) [
    | inl early ↦ absurd (omega (arith, is_from.earlier i h early, place_at i h e, low))
    | inr le ↦ le
  ]

  to_index : (i : ℕ) (h : Holder) → i < length holders → get_or holders i h ≡ h → h.place < span.end → i < to
  to_index i h lt e high = elim (below_or i to) [
    | inl early ↦ early
    | inr late ↦ absurd (omega (arith, is_to.later i h late lt, place_at i h e, high))
  ]

  upto_index : (i : ℕ) (h : Holder) → i < length holders → get_or holders i h ≡ h → h.place < place → i < upto
  upto_index i h lt e low = elim (below_or i upto) [
    | inl early ↦ early
    | inr late ↦ absurd (omega (arith, is_upto.later i h late lt, place_at i h e, low))
  ]

  behind_index : (i : ℕ) (h : Holder) → i < length holders → get_or holders i h ≡ h → place < h.place → behind ≤ i
  behind_index i h lt e high = elim (below_or i behind) [
    | inl early ↦ absurd (omega (arith, is_behind.earlier i h early, place_at i h e, high))
    | inr le ↦ le
  ]

  below_min : (i a b : ℕ) → i < a → i < b → i < min a b
  below_min i a b x y = grind (arith, x, y)

  min_below : (i a b : ℕ) → i < min a b → (i < a) × (i < b)
  min_below i a b x = (grind (arith, x), grind (arith, x))

  above_max : (i a b : ℕ) → a ≤ i → b ≤ i → max a b ≤ i
  above_max i a b x y = grind (arith, x, y)

  max_above : (i a b : ℕ) → max a b ≤ i → (a ≤ i) × (b ≤ i)
  max_above i a b x = (grind (arith, x), grind (arith, x))

  three : (a b : ℕ) → (a < b) ⊎ ((a ≡ b) ⊎ (b < a))
  three a b = grind arith

  to_one : (c : ℕ) → ReachesIn rows holders interface span c → Before c ⊎ Behind c
  to_one c r =
      let i = r.listed.0 in
      let lt = r.listed.1 in
      let e = r.listed.2 in
      let low = from_index i r.holder lt e r.from in
      let high = to_index i r.holder lt e r.within in
      elim (three r.holder.place place) [
        | inl less ↦ inl (record {
          holder = r.holder;
          index = i;
          after = low;
          before = below_min i upto to (upto_index i r.holder lt e less) high;
          listed = lt;
          is = e;
          reached = r.reached;
        })
        | inr (inl same) ↦ absurd (r.apart (laid.placed.own r.holder.interface interface (are.known r.holder r.listed) is_class (sym (are.placed r.holder r.listed) ∙ same)))
        | inr (inr more) ↦ inr (record {
          holder = r.holder;
          index = i;
          after = above_max i behind from (behind_index i r.holder lt e more) low;
          before = high;
          listed = lt;
          is = e;
          reached = r.reached;
        })
      ]

  -- one whose place isn't that of the interface is another one
  in_span : (a b c : ℕ) (r : ReachesOne rows holders a b c) → from ≤ r.index → r.index < to → (r.holder.place ≡ place → ⊥) → ReachesIn rows holders interface span c
  in_span a b c r low high other =
      let there : Contains holders r.holder = (r.index, r.listed, r.is) in
      let same = place_at r.index r.holder r.is in
      record {
        holder = r.holder;
        listed = there;
        apart = λ e. other (are.placed r.holder there ∙ ap (λ x. get_or layout.places.now x 0) e);
        from = omega (arith, is_from.later r.index r.holder low r.listed, same);
        within = omega (arith, is_to.earlier r.index r.holder high, same);
        reached = r.reached;
      }

  of_one : (c : ℕ) → Before c ⊎ Behind c → ReachesIn rows holders interface span c
  of_one c (inl r) =
      let low = min_below r.index upto to r.before in
      in_span from (min upto to) c r r.after low.1 (λ e. omega (arith, is_upto.earlier r.index r.holder low.0, place_at r.index r.holder r.is, e))
  of_one c (inr r) =
      let high = max_above r.index behind from r.after in
      in_span (max behind from) to c r high.1 r.before (λ e. omega (arith, is_behind.later r.index r.holder high.0 r.listed, place_at r.index r.holder r.is, e))

  pub hidden_both : (old mid new : List Span) → AddsReached rows layout.places.now holders from (min upto to) old mid → AddsReached rows layout.places.now holders (max behind from) to mid new
      → AddsHidden rows layout.places.now holders interface span old new
  hidden_both old mid new = adds_both rows layout.places.now Before Behind (ReachesIn rows holders interface span) old mid new (λ c. (to_one c, of_one c))

-- ---- span after span

-- the class reaches another holder that stands in one of the spans
abbrev pub ReachesAny : Rows → List Holder → ℕ → List Span → ℕ → Type 0
ReachesAny rows holders interface spans c = (s : Span) × Contains spans s × ReachesIn rows holders interface s c

-- the places of these classes
pub record AreHidden (rows : Rows) (places : List ℕ) (holders : List Holder) (interface : ℕ) (spans hidden : List Span) : Type 0 where
  pub filled : AreFilled hidden
  pub exact : (c : ℕ) → c < length rows.classes → Holds hidden (get_or places c 0) ↔ ReachesAny rows holders interface spans c

module _ (rows : Rows) (layout : Layout) (laid : LaysOut rows layout) (holders : List Holder) (are : ArePlaced rows layout.places.now holders) (interface : ℕ) where
  abbrev Hidden : List Span → List Span → Type 0
  Hidden spans hidden = AreHidden rows layout.places.now holders interface spans hidden

  pub hidden_none : (spans : List Span) → AreHidden rows layout.places.now holders interface (take 0 spans) []
  hidden_none spans = record {
    filled = λ k d h. absurd (omega (arith, h));
    exact = λ c known. (λ h. absurd (holds_none _ h), λ r. absurd (Contains-nil r.0 r.1));
  }

  pub hidden_more : (spans : List Span) (i : ℕ) (d : Span) (old new : List Span) → i < length spans → AddsHidden rows layout.places.now holders interface (get_or spans i d) old new
      → Hidden (take i spans) old → AreHidden rows layout.places.now holders interface (take (i + 1) spans) new
  hidden_more spans i d old new h adds a = record {
    filled = adds.filled a.filled;
    exact = λ c known. (
      λ held. elim ((adds.exact c known).0 held) [
        | inl o ↦ let r = (a.exact c known).0 o in (r.0, Contains-take_kept spans i d r.0 h r.1, r.2)
        | inr r ↦ (get_or spans i d, Contains-take_last spans i d h, r)
      ],
      λ (s, m, r). elim (Contains-take_more spans i d s h m) [
        | inl was ↦ (adds.exact c known).1 (inl ((a.exact c known).1 (s, was, r)))
        | inr is ↦ (adds.exact c known).1 (inr (subst (λ (u : Span). ReachesIn rows holders interface u c) (sym is) r))
      ],
    );
  }

  -- in all spans of the interface stand those that are below it
  pub hidden_all : (hidden united : List Span) → interface < length rows.classes → Hidden (group layout.reach.now interface) hidden → ((p : ℕ) → Holds united p ↔ Holds hidden p)
      → (c : ℕ) → c < length rows.classes → Holds united (get_or layout.places.now c 0) ↔ IsHidden rows holders interface c
  hidden_all hidden united is_class a same c known = (
    λ held. let r = (a.exact c known).0 ((same _).0 held) in to r.0 r.1 r.2,
    λ (h, m, hides, sub).
        let place = are.placed h m in
        let s = (laid.reached.exact h.interface interface (are.known h m) is_class).1 hides.below in
        (same _).1 ((a.exact c known).1 (s.0, s.1, record { holder = h; listed = m; apart = hides.apart; from = omega (arith, s.2, place); within = omega (arith, s.3, place); reached = sub })),
  )
    where
      to : (s : Span) → Contains (group layout.reach.now interface) s → ReachesIn rows holders interface s c → IsHidden rows holders interface c
      to s m r =
          let place = are.placed r.holder r.listed in
          let below = (laid.reached.exact r.holder.interface interface (are.known r.holder r.listed) is_class).0 (s, m, omega (arith, r.from, place), omega (arith, r.within, place)) in
          (r.holder, r.listed, record { apart = r.apart; below = below }, r.reached)
