-- Lists that grow by the elements with a fact, part after part.
use Rattle.std.proofs.Common.{◌≡◌, ◌-◌, ◌<◌, ◌↔◌, ◌⊎◌, List, [], ◌∷◌, ◌++◌, Some, length, get_or, inl, inr, refl, sym, ap, ◌∙◌, subst, arith, length-append}
use Rattle.std.specs.List.{AllPairs}
use Rattle.std.proofs.lemmas.Bool.{cases_lt}
use Rattle.std.proofs.lemmas.List.{append-nil, append_assoc, get_or-append_right, get_or_append_left}
use Rattle.std.proofs.lemmas.Option.{slice_get-get_or}
use Rattle.lists.specs.Lists.{Has, AreExactly}
use Rattle.lists.proofs.Joined.{Has-either, Has-left, Has-right}
use Rattle.demand_set.proofs.Appended.{Has-one}
use Rattle.type_track.specs.Growing.{GrowsBy}

module _ {X : Type 0} (Precedes : X → X → Type 0) where
  -- two lists of which the first stands before the second
  AllPairs-append : (xs ys : List X) → AllPairs Precedes xs → AllPairs Precedes ys → ((x y : X) → Has xs x → Has ys y → Precedes x y) → AllPairs Precedes (xs ++ ys)
  AllPairs-append xs ys first second across i j d less within =
      let long = length-append xs ys in
      elim (cases_lt j (length xs)) [
        | inl low ↦
            rw (get_or_append_left xs ys d i (omega arith), get_or_append_left xs ys d j low) (first i j d less low)
        | inr high ↦
            let behind : j - length xs < length ys = omega arith in
            elim (cases_lt i (length xs)) [
              | inl low ↦
                  rw (get_or_append_left xs ys d i low, get_or-append_right xs ys (length xs) j d refl high)
                  (across (get_or xs i d) (get_or ys (j - length xs) d) (i, slice_get-get_or xs i d low) (j - length xs, slice_get-get_or ys (j - length xs) d behind))
              | inr above ↦
                  rw (get_or-append_right xs ys (length xs) i d refl above, get_or-append_right xs ys (length xs) j d refl high)
                  (second (i - length xs) (j - length xs) d (omega arith) behind)
            ]
      ]

  -- by none
  pub grows_none : {P : X → Type 0} (xs : List X) → ((x : X) → P x → ⊥) → GrowsBy Precedes P xs xs
  grows_none xs none = record {
    added = [];
    grown = sym (append-nil xs);
    exact = record { each = λ x. ((λ has. absurd (cc has.1)), (λ h. absurd (none x h))); ordered = λ i j d less within. absurd (omega arith) };
  }

  -- by one
  pub grows_one : (P : X → Type 0) (xs : List X) (x : X) → P x → ((y : X) → P y → y ≡ x) → GrowsBy Precedes P xs (xs ++ x ∷ [])
  grows_one P xs x is only = record {
    added = x ∷ [];
    grown = refl;
    exact = record {
      each = λ y. ((λ has. subst P (sym (Has-one x y has)) is), (λ h. (0, ap Some (sym (only y h)))));
      ordered = λ i j d less within. absurd (omega arith);
    };
  }

  -- by the same
  pub grows_same : {P Q : X → Type 0} {old new : List X} → GrowsBy Precedes P old new → ((x : X) → Q x ↔ P x) → GrowsBy Precedes Q old new
  grows_same g same = record {
    added = g.added;
    grown = g.grown;
    exact = record {
      each = λ x. ((λ has. (same x).1 ((g.exact.each x).0 has)), (λ h. (g.exact.each x).1 ((same x).0 h)));
      ordered = g.exact.ordered;
    };
  }

  -- by some, and then by others that come behind them
  pub grows_more : {P Q R : X → Type 0} {old mid new : List X} → GrowsBy Precedes P old mid → GrowsBy Precedes Q mid new → ((x y : X) → P x → Q y → Precedes x y)
      → ((x : X) → R x ↔ (P x ⊎ Q x)) → GrowsBy Precedes R old new
  grows_more {P} {Q} {R} {old} {mid} {new} one two before either = record {
    added = one.added ++ two.added;
    grown = two.grown ∙ ap (λ xs. xs ++ two.added) one.grown ∙ append_assoc old one.added two.added;
    exact = record {
      each = λ x. (
        (λ has. (either x).1 (elim (Has-either one.added two.added x has) [ inl a ↦ inl ((one.exact.each x).0 a) | inr b ↦ inr ((two.exact.each x).0 b) ])),
        (λ h. elim ((either x).0 h) [
          | inl a ↦ Has-left one.added two.added x ((one.exact.each x).1 a)
          | inr b ↦ Has-right one.added two.added x ((two.exact.each x).1 b)
        ]),
      );
      ordered = AllPairs-append one.added two.added one.exact.ordered two.exact.ordered
          (λ x y here there. before x y ((one.exact.each x).0 here) ((two.exact.each y).0 there));
    };
  }

  -- from the empty list
  pub grown_exactly : {P : X → Type 0} {new : List X} → GrowsBy Precedes P [] new → AreExactly Precedes P new
  grown_exactly {P} g = subst (AreExactly Precedes P) (sym g.grown) g.exact
