-- Which stays reach furthest, where one more has begun, and what they tell.
use Rattle.std.proofs.Common.{◌≡◌, ◌≢◌, ◌⊎◌, ℕ, ◌<◌, ◌≤◌, List, [], ◌∷◌, ◌++◌, max, refl, sym, ap, ◌∙◌, inl, inr, arith}
use Rattle.std.specs.List.{Contains}
use Rattle.std.proofs.lemmas.Bool.{cases_eq}
use Rattle.std.proofs.lemmas.List.Elements.{Contains-append_left, Contains-push, Contains-push_cases}
use Rattle.lists.proofs.Elements.{Contains-nil}
use Rattle.class_tree.specs.Defaults.{AreDefaults}
use Rattle.class_tree.specs.declared.tree.Defaults.TheVariants.{Nothing, One, Several}
use Rattle.default_turns.specs.declared.furthest.Furthest.{Furthest}
use Rattle.default_turns.specs.declared.stays.Stay.{Stay}
use Rattle.default_turns.specs.Furthest.{AreFurthest, StaysPast}

pub furthest_none : AreFurthest [] (record { row = 0; end = 0; others_end = 0 })
furthest_none = record {
  own = λ s m e. absurd (Contains-nil s m);
  others = λ s m e. absurd (Contains-nil s m);
  less = omega arith;
  is_end = λ lt. absurd (omega (arith, lt));
  is_others_end = λ lt. absurd (omega (arith, lt));
}

module _ (stays : List Stay) (f : Furthest) (a : AreFurthest stays f) (stay : Stay) where
  abbrev new : List Stay
  new = stays ++ stay ∷ []

  was : (s : Stay) → Contains stays s → Contains new s
  was s m = Contains-append_left stays (stay ∷ []) s m

  is_new : Contains new stay
  is_new = Contains-push stays stay

  cases : (s : Stay) → Contains new s → Contains stays s ⊎ (stay ≡ s)
  cases s m = Contains-push_cases stays stay s m

  end_is : (s : Stay) → stay ≡ s → stay.end ≡ s.end
  end_is s e = ap (λ (u : Stay). u.end) e

  row_is : (s : Stay) → stay ≡ s → stay.row ≡ s.row
  row_is s e = ap (λ (u : Stay). u.row) e

  one_of : (most x y place : ℕ) → most ≡ max x y → place < most → ((most ≡ x) × (place < x)) ⊎ ((most ≡ y) × (place < y))
  one_of most x y place e lt = grind (arith, e, lt)

  -- of the default method that stays furthest
  pub furthest_own : (most : ℕ) → most ≡ max f.end stay.end → stay.row ≡ f.row → AreFurthest (stays ++ stay ∷ []) (record f { end = most })
  furthest_own most e same = record {
    own = λ s m row. elim (cases s m) [ inl old ↦ omega (arith, a.own s old row, e) | inr is ↦ omega (arith, end_is s is, e) ];
    others = λ s m row. elim (cases s m) [ inl old ↦ a.others s old row | inr is ↦ absurd (row (sym (row_is s is) ∙ same)) ];
    less = omega (arith, a.less, e);
    is_end = λ lt. elim (one_of most f.end stay.end 0 e lt) [
      | inl (is, some) ↦ let s = a.is_end some in (s.0, was s.0 s.1, s.2, s.3 ∙ sym is)
      | inr (is, some) ↦ (stay, is_new, same, sym is)
    ];
    is_others_end = λ lt. let s = a.is_others_end lt in (s.0, was s.0 s.1, s.2, s.3);
  }

  -- of another one, which stays further
  pub furthest_new : f.end < stay.end → stay.row ≢ f.row → AreFurthest (stays ++ stay ∷ []) (record { row = stay.row; end = stay.end; others_end = f.end })
  furthest_new further apart = record {
    own = λ s m row. elim (cases s m) [
      | inl old ↦ omega (arith, a.others s old (λ e. apart (sym row ∙ e)), a.less, further)
      | inr is ↦ omega (arith, end_is s is)
    ];
    others = λ s m row. elim (cases s m) [
      | inl old ↦ elim (cases_eq s.row f.row) [ inl same ↦ a.own s old same | inr other ↦ omega (arith, a.others s old other, a.less) ]
      | inr is ↦ absurd (row (sym (row_is s is)))
    ];
    less = omega (arith, further);
    is_end = λ lt. (stay, is_new, refl, refl);
    is_others_end = λ lt. let s = a.is_end lt in (s.0, was s.0 s.1, (λ e. apart (sym e ∙ s.2)), s.3);
  }

  -- of another one, which doesn't
  pub furthest_other : (most : ℕ) → most ≡ max f.others_end stay.end → stay.end ≤ f.end → stay.row ≢ f.row → AreFurthest (stays ++ stay ∷ []) (record f { others_end = most })
  furthest_other most e before apart = record {
    own = λ s m row. elim (cases s m) [ inl old ↦ a.own s old row | inr is ↦ absurd (apart (row_is s is ∙ row)) ];
    others = λ s m row. elim (cases s m) [ inl old ↦ omega (arith, a.others s old row, e) | inr is ↦ omega (arith, end_is s is, e) ];
    less = omega (arith, a.less, before, e);
    is_end = λ lt. let s = a.is_end lt in (s.0, was s.0 s.1, s.2, s.3);
    is_others_end = λ lt. elim (one_of most f.others_end stay.end 0 e lt) [
      | inl (is, some) ↦ let s = a.is_others_end some in (s.0, was s.0 s.1, s.2, s.3 ∙ sym is)
      | inr (is, some) ↦ (stay, is_new, apart, sym is)
    ];
  }

-- ---- what stays past a place

module _ (stays : List Stay) (f : Furthest) (a : AreFurthest stays f) (place : ℕ) where
  own_past : place < f.end → StaysPast stays place f.row
  own_past lt = let s = a.is_end (omega (arith, lt)) in (s.0, s.1, s.2, omega (arith, lt, s.3))

  pub past_several : place < f.others_end → AreDefaults (StaysPast stays place) Several
  past_several lt =
      let s = a.is_others_end (omega (arith, lt)) in
      record {
        one = f.row;
        other = s.0.row;
        is_one = own_past (omega (arith, lt, a.less));
        is_other = (s.0, s.1, refl, omega (arith, lt, s.3));
        apart = λ e. s.2 (sym e);
      }

  pub past_one : f.others_end ≤ place → place < f.end → AreDefaults (StaysPast stays place) (One f.row)
  past_one le lt = (
    own_past lt,
    λ row (s, m, e, past). elim (cases_eq s.row f.row) [
      | inl same ↦ sym e ∙ same
      | inr other ↦ absurd (omega (arith, a.others s m other, le, past))
    ],
  )

  pub past_nothing : f.others_end ≤ place → f.end ≤ place → AreDefaults (StaysPast stays place) Nothing
  past_nothing le ends row (s, m, e, past) = elim (cases_eq s.row f.row) [
    | inl same ↦ omega (arith, a.own s m same, ends, past)
    | inr other ↦ omega (arith, a.others s m other, le, past)
  ]
