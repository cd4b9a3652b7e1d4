-- The stays of default methods, one span and one interface after the other.
use Rattle.std.proofs.Common.{◌≡◌, ◌↔◌, ◌⊎◌, ℕ, ◌+◌, ◌<◌, ◌≤◌, List, [], ◌∷◌, ◌++◌, length, get_or, take, refl, sym, ap, subst, ◌∙◌, inl, inr, arith}
use Rattle.std.specs.List.{Contains}
use Rattle.std.proofs.lemmas.Bool.{cases_eq}
use Rattle.std.proofs.lemmas.List.Elements.{Contains-append_left, Contains-get_or, Contains-push, Contains-push_cases, All-contains}
use Rattle.std.proofs.lemmas.List.Sorted.{Contains-permutation, IsPermutation-sym}
use Rattle.std.specs.List.Sorted.{IsNonDecreasingBy, IsPermutation}
use Rattle.lists.proofs.Elements.{Contains-nil, Contains-take_kept, Contains-take_last, Contains-take_more, same_read}
use Rattle.class_rules.specs.Lookups.{IsDefault}
use Rattle.class_rules.specs.Rows.{Rows, Sub}
use Rattle.class_order.specs.declared.spans.Span.{Span}
use Rattle.class_order.specs.Groups.{group}
use Rattle.class_order.specs.Spans.{AreApart, Holds}
use Rattle.class_tree.proofs.Lowest.{held_by, holder_from}
use Rattle.class_tree.specs.declared.layout.Layout.{Layout}
use Rattle.class_tree.specs.Defaults.{HasDefault}
use Rattle.class_tree.specs.Layouts.{LaysOut}
use Rattle.default_turns.specs.declared.holders.Holder.{Holder}
use Rattle.default_turns.specs.declared.stays.Stay.{Stay}
use Rattle.default_turns.specs.Hiding.{Hides, IsHidden}
use Rattle.default_turns.specs.Holders.{AreHoldersOf}
use Rattle.default_turns.specs.Stays.{AddsAt, AddsBare, AddsStay, AddsStaysOf, AreEnded, AreStays, StaysAt}
use Rattle.default_turns.proofs.Covered.{below_or}

-- ---- one stay

pub adds_none : (row : ℕ) (At : ℕ → Type 0) (stays : List Stay) → ((place : ℕ) → At place → ⊥) → AddsAt row At stays stays
adds_none row At stays none = record {
  ended = λ e. e;
  exact = λ r place. (λ s. inl s, λ c. elim c [ inl s ↦ s | inr (e, at) ↦ absurd (none place at) ]);
}

module _ (now : List Stay) (row start end : ℕ) (filled : start < end) where
  abbrev one : Stay
  one = record { row = row; start = start; end = end }

  abbrev past : Stay
  past = record { row = row; start = end; end = end }

  abbrev both : List Stay
  both = (now ++ one ∷ []) ++ past ∷ []

  kept : (s : Stay) → Contains now s → Contains both s
  kept s m = Contains-append_left (now ++ one ∷ []) (past ∷ []) s (Contains-append_left now (one ∷ []) s m)

  is_stay : Contains both one
  is_stay = Contains-append_left (now ++ one ∷ []) (past ∷ []) one (Contains-push now one)

  is_past : Contains both past
  is_past = Contains-push (now ++ one ∷ []) past

  cases : (s : Stay) → Contains both s → Contains now s ⊎ (one ≡ s) ⊎ (past ≡ s)
  cases s m = elim (Contains-push_cases (now ++ one ∷ []) past s m) [
    | inl m ↦ elim (Contains-push_cases now one s m) [ inl kept ↦ inl kept | inr is ↦ inr (inl is) ]
    | inr is ↦ inr (inr is)
  ]

  ended : AreEnded now → AreEnded both
  ended e s m = elim (cases s m) [
    | inl old ↦ let t = e s old in (t.0, kept t.0 t.1, t.2)
    | inr is ↦ elim is [
      | inl is ↦ (past, is_past, ap (λ (u : Stay). u.end) is)
      | inr is ↦ (past, is_past, ap (λ (u : Stay). u.end) is)
    ]
  ]

  to : (r place : ℕ) → StaysAt both r place → StaysAt now r place ⊎ ((r ≡ row) × ((start ≤ place) × (place < end)))
  to r place (s, m, e, low, high) = elim (cases s m) [
    | inl old ↦ inl (s, old, e, low, high)
    | inr is ↦ elim is [
      | inl is ↦ inr (sym (ap (λ (u : Stay). u.row) is ∙ e), (subst (λ (u : Stay). u.start ≤ place) (sym is) low, subst (λ (u : Stay). place < u.end) (sym is) high))
      | inr is ↦ let x = ap (λ (u : Stay). u.start) is in let y = ap (λ (u : Stay). u.end) is in absurd (omega (arith, low, high, x, y))
    ]
  ]

  pub adds_stay : AddsStay row start end now ((now ++ record { row = row; start = start; end = end } ∷ []) ++ record { row = row; start = end; end = end } ∷ [])
  adds_stay = record {
    ended = ended;
    exact = λ r place. (
      to r place,
      λ c. elim c [
        | inl (s, m, e, low, high) ↦ (s, kept s m, e, low, high)
        | inr (e, (low, high)) ↦ (one, is_stay, sym e, low, high)
      ],
    );
  }

-- ---- the places of a span that aren't hidden

pub ends_rise : (spans : List Span) → AreApart spans → IsNonDecreasingBy (λ (s : Span). s.end) spans
ends_rise spans a i j d le h = elim (below_or i j) [
  | inl less ↦
      let filled = All-contains (λ (s : Span). s.start < s.end) spans (get_or spans j d) a.filled (Contains-get_or spans j d h) in
      omega (arith, a.apart i j d less h, filled)
  | inr same ↦ let is : i ≡ j = omega (arith, le, same) in let x = ap (λ k. (get_or spans k d).end) is in omega (arith, x)
]

-- those up to `start` are done, and of the hidden spans the first ones
pub record IsBare (row : ℕ) (span : Span) (hidden : List Span) (old : List Stay) (at start : ℕ) (now : List Stay) : Type 0 where
  pub bound : at ≤ length hidden
  pub from : span.start ≤ start
  pub passed : (k : ℕ) (d : Span) → k < at → (get_or hidden k d).end ≤ start
  pub coming : (k : ℕ) (d : Span) → at ≤ k → k < length hidden → start < (get_or hidden k d).end
  pub adds : AddsAt row (λ place. (span.start ≤ place) × (place < span.end) × (place < start) × (Holds hidden place → ⊥)) old now

module _ (row : ℕ) (span : Span) (hidden : List Span) (apart : AreApart hidden) (old : List Stay) where
  abbrev IsDone : ℕ → ℕ → List Stay → Type 0
  IsDone at start now = IsBare row span hidden old at start now

  pub bare_first : (at : ℕ) → at ≤ length hidden → ((k : ℕ) (d : Span) → k < at → (get_or hidden k d).end ≤ span.start)
      → ((k : ℕ) (d : Span) → at ≤ k → k < length hidden → span.start < (get_or hidden k d).end) → IsBare row span hidden old at span.start old
  bare_first at bound passed coming = record {
    bound = bound;
    from = omega arith;
    passed = passed;
    coming = coming;
    adds = adds_none row _ old (λ place p. omega (arith, p.0, p.2));
  }

  -- between `start` and the next hidden span nothing is hidden
  clear : (at start : ℕ) (now : List Stay) (limit place : ℕ) → IsDone at start now → start ≤ place → place < limit
      → ((k : ℕ) (d : Span) → at ≤ k → k < length hidden → limit ≤ (get_or hidden k d).start) → Holds hidden place → ⊥
  clear at start now limit place b low high rest (s, m, le, lt) = elim (below_or m.0 at) [
    | inl early ↦ let x = ap (λ (u : Span). u.end) m.2 in omega (arith, b.passed m.0 s early, x, low, lt)
    | inr late ↦ let x = ap (λ (u : Span). u.start) m.2 in omega (arith, rest m.0 s late m.1, x, high, le)
  ]

  module _ (at start : ℕ) (d : Span) (now : List Stay) (b : IsDone at start now) where
    pub bare_next : (new : List Stay) → at < length hidden → (get_or hidden at d).start < span.end → AddsStay row start (get_or hidden at d).start now new
        → IsBare row span hidden old (at + 1) (get_or hidden at d).end new
    bare_next new h before stay = record {
      bound = omega (arith, h);
      from = omega (arith, b.from, reaches);
      passed = λ k e lt. passed k e lt (below_or k at);
      coming = λ k e le in_all. let x = ap (λ (u : Span). u.end) (same_read hidden k e d in_all) in omega (arith, apart.apart at k d (omega (arith, le)) in_all, x, filled_at k in_all);
      adds = record {
        ended = λ e. stay.ended (b.adds.ended e);
        exact = λ r place. (to r place, back r place);
      };
    }
      where
        reaches : start < (get_or hidden at d).end
        reaches = b.coming at d (omega arith) h

        filled_at : (k : ℕ) → k < length hidden → (get_or hidden k d).start < (get_or hidden k d).end
        filled_at k in_all = All-contains (λ (s : Span). s.start < s.end) hidden (get_or hidden k d) apart.filled (Contains-get_or hidden k d in_all)

        passed : (k : ℕ) (e : Span) → k < at + 1 → (k < at) ⊎ (at ≤ k) → (get_or hidden k e).end ≤ (get_or hidden at d).end
        passed k e lt (inl early) = omega (arith, b.passed k e early, reaches)
        passed k e lt (inr late) =
            let is : k ≡ at = omega (arith, lt, late) in
            let x = ap (λ (u : Span). u.end) (ap (λ j. get_or hidden j e) is ∙ same_read hidden at e d h) in
            omega (arith, x)

        rest : (k : ℕ) (e : Span) → at ≤ k → k < length hidden → (get_or hidden at d).start ≤ (get_or hidden k e).start
        rest k e le in_all =
            let x = ap (λ (u : Span). u.start) (same_read hidden k e d in_all) in
            elim (below_or at k) [
              | inl less ↦ omega (arith, apart.apart at k d less in_all, filled_at at h, x)
              | inr same ↦ let is : k ≡ at = omega (arith, le, same) in let y = ap (λ j. (get_or hidden j d).start) is in omega (arith, x, y)
            ]

        to : (r place : ℕ) → StaysAt new r place
            → StaysAt old r place ⊎ ((r ≡ row) × ((span.start ≤ place) × (place < span.end) × (place < (get_or hidden at d).end) × (Holds hidden place → ⊥)))
        to r place s = elim ((stay.exact r place).0 s) [
          | inl was ↦ elim ((b.adds.exact r place).0 was) [
            | inl o ↦ inl o
            | inr (e, (low, high, done, not)) ↦ inr (e, (low, high, omega (arith, done, reaches), not))
          ]
          | inr (e, (low, high)) ↦ inr (
            e,
            (
              omega (arith, b.from, low),
              omega (arith, high, before),
              omega (arith, high, filled_at at h),
              λ held. clear at start now (get_or hidden at d).start place b low high rest held,
            ),
          )
        ]

        back : (r place : ℕ) → StaysAt old r place ⊎ ((r ≡ row) × ((span.start ≤ place) × (place < span.end) × (place < (get_or hidden at d).end) × (Holds hidden place → ⊥)))
            → StaysAt new r place
        back r place (inl o) = (stay.exact r place).1 (inl ((b.adds.exact r place).1 (inl o)))
        back r place (inr (e, (low, high, done, not))) = elim (below_or place start) [
          | inl early ↦ (stay.exact r place).1 (inl ((b.adds.exact r place).1 (inr (e, (low, high, early, not)))))
          | inr late ↦ elim (below_or place (get_or hidden at d).start) [
            | inl free ↦ (stay.exact r place).1 (inr (e, (late, free)))
            | inr under ↦ absurd (not (get_or hidden at d, Contains-get_or hidden at d h, under, done))
          ]
        ]

    -- no more of them begin in the span
    pub bare_all : (new : List Stay) → ((k : ℕ) (e : Span) → at ≤ k → k < length hidden → span.end ≤ (get_or hidden k e).start) → AddsStay row start span.end now new → AddsBare row span hidden old new
    bare_all new rest stay = record {
      ended = λ e. stay.ended (b.adds.ended e);
      exact = λ r place. (
        λ s. elim ((stay.exact r place).0 s) [
          | inl was ↦ elim ((b.adds.exact r place).0 was) [
            | inl o ↦ inl o
            | inr (e, (low, high, done, not)) ↦ inr (e, (low, high, not))
          ]
          | inr (e, (low, high)) ↦ inr (e, (omega (arith, b.from, low), high, λ held. clear at start now span.end place b low high rest held))
        ],
        λ c. elim c [
          | inl o ↦ (stay.exact r place).1 (inl ((b.adds.exact r place).1 (inl o)))
          | inr (e, (low, high, not)) ↦ elim (below_or place start) [
            | inl early ↦ (stay.exact r place).1 (inl ((b.adds.exact r place).1 (inr (e, (low, high, early, not)))))
            | inr late ↦ (stay.exact r place).1 (inr (e, (late, high)))
          ]
        ],
      );
    }

    pub rest_behind : span.end ≤ (get_or hidden at d).start → (k : ℕ) (e : Span) → at ≤ k → k < length hidden → span.end ≤ (get_or hidden k e).start
    rest_behind behind k e le in_all =
        let x = ap (λ (u : Span). u.start) (same_read hidden k e d in_all) in
        elim (below_or at k) [
          | inl less ↦
              let filled = All-contains (λ (s : Span). s.start < s.end) hidden (get_or hidden at d) apart.filled (Contains-get_or hidden at d (omega (arith, less, in_all))) in
              omega (arith, apart.apart at k d less in_all, filled, x, behind)
          | inr same ↦ let is : k ≡ at = omega (arith, le, same) in let y = ap (λ j. (get_or hidden j d).start) is in omega (arith, x, y, behind)
        ]

-- ---- of one interface

-- the places of these spans that aren't hidden
abbrev pub BareIn : List Span → List Span → ℕ → Type 0
BareIn spans hidden place = Holds spans place × (Holds hidden place → ⊥)

pub bare_none : (row : ℕ) (spans hidden : List Span) (old : List Stay) → AddsAt row (BareIn (take 0 spans) hidden) old old
bare_none row spans hidden old = adds_none row (BareIn (take 0 spans) hidden) old (λ place b. Contains-nil b.0.0 b.0.1)

pub bare_more : (row : ℕ) (spans hidden : List Span) (i : ℕ) (d : Span) (old now new : List Stay) → i < length spans → AddsBare row (get_or spans i d) hidden now new
    → AddsAt row (BareIn (take i spans) hidden) old now → AddsAt row (BareIn (take (i + 1) spans) hidden) old new
bare_more row spans hidden i d old now new h adds a = record {
  ended = λ e. adds.ended (a.ended e);
  exact = λ r place. (
    λ s. elim ((adds.exact r place).0 s) [
      | inl was ↦ elim ((a.exact r place).0 was) [
        | inl o ↦ inl o
        | inr (e, ((t, m, low, high), not)) ↦ inr (e, ((t, Contains-take_kept spans i d t h m, low, high), not))
      ]
      | inr (e, (low, high, not)) ↦ inr (e, ((get_or spans i d, Contains-take_last spans i d h, low, high), not))
    ],
    λ c. elim c [
      | inl o ↦ (adds.exact r place).1 (inl ((a.exact r place).1 (inl o)))
      | inr (e, ((t, m, low, high), not)) ↦ elim (Contains-take_more spans i d t h m) [
        | inl was ↦ (adds.exact r place).1 (inl ((a.exact r place).1 (inr (e, ((t, was, low, high), not)))))
        | inr is ↦ (adds.exact r place).1 (inr (e, (subst (λ (u : Span). u.start ≤ place) (sym is) low, subst (λ (u : Span). place < u.end) (sym is) high, not)))
      ]
    ],
  );
}

module _ (rows : Rows) (layout : Layout) (laid : LaysOut rows layout) (holders : List Holder) (interface row : ℕ) (is_class : interface < length rows.classes) (hidden : List Span)
    (exact : (c : ℕ) → c < length rows.classes → Holds hidden (get_or layout.places.now c 0) ↔ IsHidden rows holders interface c) where
  pub bare_of : (old new : List Stay) → AddsAt row (BareIn (group layout.reach.now interface) hidden) old new → AddsStaysOf rows layout.places.now holders interface row old new
  bare_of old new a = record {
    ended = a.ended;
    exact = λ c r known. (
      λ s. elim ((a.exact r (get_or layout.places.now c 0)).0 s) [
        | inl o ↦ inl o
        | inr (e, (held, not)) ↦ inr (e, (laid.reached.exact c interface known is_class).0 held, λ is. not ((exact c known).1 is))
      ],
      λ q. elim q [
        | inl o ↦ (a.exact r (get_or layout.places.now c 0)).1 (inl o)
        | inr (e, sub, not) ↦ (a.exact r (get_or layout.places.now c 0)).1 (inr (e, ((laid.reached.exact c interface known is_class).1 sub, λ held. not ((exact c known).0 held))))
      ],
    );
  }

-- ---- of all of them

module _ (rows : Rows) (places : List ℕ) (key : ℕ) (holders : List Holder) where
  -- the class reaches the interface, none of the holders hides it, and its default method has this row
  pub record IsBareDefault (interface class row : ℕ) : Type 0 where
    pub default : HasDefault rows interface key row
    pub reached : Sub rows class interface
    pub bare : IsHidden rows holders interface class → ⊥

  -- the stays of these
  pub record AreStaysOf (some : List Holder) (stays : List Stay) : Type 0 where
    pub ended : AreEnded stays
    pub exact : (c row : ℕ) → c < length rows.classes → StaysAt stays row (get_or places c 0) ↔ ((h : Holder) × Contains some h × IsBareDefault h.interface c row)

  pub stays_none : AreStaysOf (take 0 holders) []
  stays_none = record {
    ended = λ s m. absurd (Contains-nil s m);
    exact = λ c row known. (λ s. absurd (Contains-nil s.0 s.1), λ h. absurd (Contains-nil h.0 h.1));
  }

  module _ (i : ℕ) (d : Holder) (h : i < length holders) (now : List Stay) (a : AreStaysOf (take i holders) now) where
    -- it has no default method
    pub stays_skip : ((row : ℕ) → HasDefault rows (get_or holders i d).interface key row → ⊥) → AreStaysOf (take (i + 1) holders) now
    stays_skip none = record {
      ended = a.ended;
      exact = λ c row known. (
        λ s. let b = (a.exact c row known).0 s in (b.0, Contains-take_kept holders i d b.0 h b.1, b.2),
        λ (o, m, b). elim (Contains-take_more holders i d o h m) [
          | inl was ↦ (a.exact c row known).1 (o, was, b)
          | inr is ↦ absurd (none row (subst (λ (u : Holder). HasDefault rows u.interface key row) (sym is) b.default))
        ],
      );
    }

    pub stays_more : (row : ℕ) (new : List Stay) → HasDefault rows (get_or holders i d).interface key row
        → ((other : ℕ) → HasDefault rows (get_or holders i d).interface key other → other ≡ row)
        → AddsStaysOf rows places holders (get_or holders i d).interface row now new → AreStaysOf (take (i + 1) holders) new
    stays_more row new has one adds = record {
      ended = adds.ended a.ended;
      exact = λ c r known. (
        λ s. elim ((adds.exact c r known).0 s) [
          | inl was ↦ let b = (a.exact c r known).0 was in (b.0, Contains-take_kept holders i d b.0 h b.1, b.2)
          | inr (e, sub, not) ↦ (
            get_or holders i d,
            Contains-take_last holders i d h,
            record { default = subst (HasDefault rows (get_or holders i d).interface key) (sym e) has; reached = sub; bare = not },
          )
        ],
        λ (o, m, b). elim (Contains-take_more holders i d o h m) [
          | inl was ↦ (adds.exact c r known).1 (inl ((a.exact c r known).1 (o, was, b)))
          | inr is ↦
              let b : IsBareDefault (get_or holders i d).interface c r = subst (λ (u : Holder). IsBareDefault u.interface c r) (sym is) b in
              (adds.exact c r known).1 (inr (one r b.default, b.reached, b.bare))
        ],
      );
    }

  -- those of all that have a method of the key
  pub stays_all : (stays : List Stay) → AreHoldersOf rows key holders → AreStaysOf holders stays → AreStays rows places key stays
  stays_all stays are a = record {
    ended = a.ended;
    exact = λ c row known. (λ s. let b = (a.exact c row known).0 s in to c row b.0 b.1 b.2, λ b. (a.exact c row known).1 (back c row b));
  }
    where
      to : (c row : ℕ) (h : Holder) → Contains holders h → IsBareDefault h.interface c row → IsDefault rows c key row
      to c row h m b = record {
        interface = h.interface;
        lowest = record {
          holder = holder_from rows c key h.interface b.reached ((are h.interface).0 (h, m, refl));
          lowest = λ other is sub. elim (cases_eq other h.interface) [
            | inl e ↦ e
            | inr apart ↦
                let o = (are other).1 (held_by rows c key other is) in
                absurd (b.bare (o.0, o.1, subst (λ x. Hides rows x h.interface) (sym o.2) (record { apart = apart; below = sub }), subst (Sub rows c) (sym o.2) is.reached))
          ];
        };
        first = b.default.first;
        method = b.default.method;
        there = b.default.there;
        bodied = b.default.bodied;
      }

      back : (c row : ℕ) → IsDefault rows c key row → (h : Holder) × Contains holders h × IsBareDefault h.interface c row
      back c row b =
          let o = (are b.interface).1 (held_by rows c key b.interface b.lowest.holder) in
          let has : HasDefault rows b.interface key row = record { first = b.first; method = b.method; there = b.there; bodied = b.bodied } in (
            o.0,
            o.1,
            subst (λ x. IsBareDefault x c row) (sym o.2) (record {
              default = has;
              reached = b.lowest.holder.reached;
              bare = λ (h, m, hides, sub). hides.apart (b.lowest.lowest h.interface (holder_from rows c key h.interface sub ((are h.interface).0 (h, m, refl))) hides.below);
            }),
          )

-- in another order
pub stays_permuted : (rows : Rows) (places : List ℕ) (key : ℕ) (xs ys : List Stay) → IsPermutation xs ys → AreStays rows places key xs → AreStays rows places key ys
stays_permuted rows places key xs ys perm a = record {
  ended = λ s m. let t = a.ended s (back s m) in (t.0, Contains-permutation xs ys t.0 perm t.1, t.2);
  exact = λ c row lt. (
    λ (s, m, e, low, high). (a.exact c row lt).0 (s, back s m, e, low, high),
    λ b. let t = (a.exact c row lt).1 b in (t.0, Contains-permutation xs ys t.0 perm t.1, t.2, t.3, t.4),
  );
}
  where
    back : (s : Stay) → Contains ys s → Contains xs s
    back s m = Contains-permutation ys xs s (IsPermutation-sym xs ys perm) m
