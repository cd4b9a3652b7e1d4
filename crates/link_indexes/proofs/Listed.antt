-- The steps of the loops that make the indexes: the code seen so far grows by a statement or by a method.
use Rattle.std.proofs.Common.{◌≡◌, ℕ, ◌+◌, ◌<◌, ◌≤◌, ◌↔◌, ◌⊎◌, List, [], ◌∷◌, ◌++◌, length, take, slice_get, Some, refl, sym, ap, ◌∙◌, subst, inl, inr, arith}
use Rattle.std.specs.Option.{option_map}
use Rattle.std.proofs.Math.Seq.{get_or-append_seam}
use Rattle.std.proofs.Math.ListN.{get_or-eq_default}
use Rattle.std.proofs.lemmas.Bool.{cases_eq, cases_lt}
use Rattle.std.proofs.lemmas.List.{get_or_append_left, length-append, length-map, take_all}
use Rattle.std.proofs.lemmas.Option.{slice_get-map}
use Rattle.lists.proofs.Places.{slice_get-below}
use Rattle.link_rules.specs.declared.code.Code.{Code}
use Rattle.link_rules.specs.Flow.{Next}
use Rattle.link_indexes.specs.declared.method.MethodCode.{MethodCode}
use Rattle.link_indexes.specs.declared.method.Place.{Place}
use Rattle.link_indexes.specs.Rows.{AreTheIndexes, IsFiled, Precedes}
use Rattle.lists.specs.Filings.{row}
use Rattle.link_indexes.specs.Tables.{AreIndexesBy, ArePlacesBy, ArePredecessors, ArePredecessorsBy, GoesOn, IsAt, IsAtIndex, codes_of}
use Rattle.link_indexes.proofs.Filed.{AreExactly-filed}
use Rattle.lists.proofs.Exactly.{AreExactly-push, AreExactly-same}
use Rattle.link_indexes.proofs.Grown.{StandsAt-below, StandsAt-last, StandsAt-next, StandsAt-other, StandsAt-push}

-- the code of a method of the list
pub codes_of-there : (methods : List MethodCode) (i : ℕ) (m : MethodCode) → slice_get methods i ≡ Some m → slice_get (codes_of methods) i ≡ Some m.code
codes_of-there methods i m there = slice_get-map (λ (x : MethodCode). x.code) methods i ∙ ap (option_map (λ (x : MethodCode). x.code)) there

-- the codes of all methods
pub codes_of-all : (methods : List MethodCode) (n : ℕ) → length methods ≤ n → take n (codes_of methods) ≡ codes_of methods
codes_of-all methods n past = take_all n (codes_of methods) (omega (arith, length-map methods (λ (x : MethodCode). x.code)))

-- places with equal parts
same_place : (p q : Place) → p.method ≡ q.method → p.index ≡ q.index → p ≡ q
same_place p q method index =
    subst (λ (m : ℕ). p ≡ record { method = m; index = q.index }) method
    (subst (λ (i : ℕ). p ≡ record { method = p.method; index = i }) index refl)

module _ {K : ℕ → Code → Type 0} where
  -- a method whose statements are still to come
  pub ArePlacesBy-begin : (codes : List (List Code)) (rows : ℕ → List Place) → ArePlacesBy K codes rows → ArePlacesBy K (codes ++ [] ∷ []) rows
  ArePlacesBy-begin codes rows exact n = AreExactly-same (rows n) (exact n) (λ y. (
    (λ at. elim ((StandsAt-push (λ code _. IsAtIndex (K n) code y.index) codes [] y.method).0 at) [ inl old ↦ old | inr b ↦ cc (b.1.1) ]),
    (λ old. (StandsAt-push (λ code _. IsAtIndex (K n) code y.index) codes [] y.method).1 (inl old)),
  ))

  -- one more statement, whose place is put by its keys
  pub ArePlacesBy-more : (codes : List (List Code)) (code : List Code) (i : ℕ) (c : Code) (p : Place) (old new : ℕ → List Place) → slice_get code i ≡ Some c
      → p.method ≡ length codes → p.index ≡ i → ArePlacesBy K (codes ++ take i code ∷ []) old → IsFiled (λ n. K n c) p old new
      → ArePlacesBy K (codes ++ take (i + 1) code ∷ []) new
  ArePlacesBy-more codes code i c p old new there in_method at_index exact filed =
      AreExactly-filed {P = λ n y. IsAt (K n) (codes ++ take i code ∷ []) y} old new p exact filed behind grown
    where
      behind : (n : ℕ) (y : Place) → IsAt (K n) (codes ++ take i code ∷ []) y → Precedes y p
      behind n y at = elim ((StandsAt-push (λ part _. IsAtIndex (K n) part y.index) codes (take i code) y.method).0 at) [
        | inl old ↦ inl (let below : y.method < length codes = slice_get-below codes y.method old.0 old.1 in omega arith)
        | inr b ↦ inr (b.0 ∙ sym in_method, let below : y.index < i = StandsAt-below (λ d _. K n d) code i y.index b.1 in omega arith)
      ]

      grown : (n : ℕ) (y : Place) → IsAt (K n) (codes ++ take (i + 1) code ∷ []) y ↔ (IsAt (K n) (codes ++ take i code ∷ []) y ⊎ ((y ≡ p) × K n c))
      grown n y =
          let before = StandsAt-push (λ part _. IsAtIndex (K n) part y.index) codes (take i code) y.method in
          let after = StandsAt-push (λ part _. IsAtIndex (K n) part y.index) codes (take (i + 1) code) y.method in
          let next = StandsAt-next (λ d _. K n d) code i c there y.index in (
            (λ at. elim (after.0 at) [
              | inl old ↦ inl (before.1 (inl old))
              | inr b ↦ elim (next.0 b.1) [
                | inl old ↦ inl (before.1 (inr (b.0, old)))
                | inr d ↦ inr (same_place y p (b.0 ∙ sym in_method) (d.0 ∙ sym at_index), d.1)
              ]
            ]),
            (λ either. elim either [
              | inl old ↦ elim (before.0 old) [
                | inl earlier ↦ after.1 (inl earlier)
                | inr b ↦ after.1 (inr (b.0, next.1 (inl b.1)))
              ]
              | inr d ↦ after.1 (inr (ap (λ (q : Place). q.method) d.0 ∙ in_method, next.1 (inr (ap (λ (q : Place). q.index) d.0 ∙ at_index, d.1))))
            ]),
          )

-- one more statement of the kind
pub AreTheIndexes-push : {F : Code → Type 0} (code : List Code) (i : ℕ) (c : Code) (xs : List ℕ) → slice_get code i ≡ Some c
    → AreTheIndexes (IsAtIndex F (take i code)) xs → F c → AreTheIndexes (IsAtIndex F (take (i + 1) code)) (xs ++ i ∷ [])
AreTheIndexes-push {F} code i c xs there exact fact =
    AreExactly-push xs i exact (λ y at. StandsAt-below (λ d _. F d) code i y at)
    (λ y. (
      (λ at. elim ((StandsAt-next (λ d _. F d) code i c there y).0 at) [ inl old ↦ inl old | inr b ↦ inr b.0 ]),
      (λ either. (StandsAt-next (λ d _. F d) code i c there y).1 (elim either [ inl old ↦ inl old | inr e ↦ inr (e, fact) ])),
    ))

-- one more statement that isn't of the kind
pub AreTheIndexes-skip : {F : Code → Type 0} (code : List Code) (i : ℕ) (c : Code) (xs : List ℕ) → slice_get code i ≡ Some c
    → AreTheIndexes (IsAtIndex F (take i code)) xs → (F c → ⊥) → AreTheIndexes (IsAtIndex F (take (i + 1) code)) xs
AreTheIndexes-skip {F} code i c xs there exact none =
    AreExactly-same xs exact
    (λ y. (
      (λ at. elim ((StandsAt-next (λ d _. F d) code i c there y).0 at) [ inl old ↦ old | inr b ↦ absurd (none b.1) ]),
      (λ old. (StandsAt-next (λ d _. F d) code i c there y).1 (inl old)),
    ))

-- one more statement, which is put before each that it may go on to
pub ArePredecessors-more : (code : List Code) (at : ℕ) (c : Code) (old new : ℕ → List ℕ) → slice_get code at ≡ Some c
    → ArePredecessors (take at code) old → IsFiled (Next c at) at old new → ArePredecessors (take (at + 1) code) new
ArePredecessors-more code at c old new there exact filed =
    AreExactly-filed {P = λ s t. GoesOn (take at code) s t} old new at exact filed
    (λ s t goes. StandsAt-below (λ d u. Next d u s) code at t goes)
    (λ s t. StandsAt-next (λ d u. Next d u s) code at c there t)

module _ {X : Type 0} where
  -- a list behind the others
  row-push : (rows : List (List X)) (new : List X) (n : ℕ) → ((n ≡ length rows) × (row (rows ++ new ∷ []) n ≡ new)) ⊎ ((n ≡ length rows → ⊥) × (row (rows ++ new ∷ []) n ≡ row rows n))
  row-push rows new n =
      elim (cases_eq n (length rows)) [
        | inl e ↦ inl (e, rw e (get_or-append_seam rows new [] []))
        | inr ne ↦ inr (
          ne,
          elim (cases_lt n (length rows)) [
            | inl below ↦ get_or_append_left rows (new ∷ []) [] n below
            | inr past ↦ get_or-eq_default (rows ++ new ∷ []) [] (omega (arith, length-append rows (new ∷ []))) ∙ sym (get_or-eq_default rows [] past)
          ],
        )
      ]

-- one more method, with its indexes
pub AreIndexesBy-push : {F : Code → Type 0} (codes : List (List Code)) (code : List Code) (rows : List (List ℕ)) (new : List ℕ) → length rows ≡ length codes
    → AreIndexesBy F codes rows → AreTheIndexes (IsAtIndex F code) new → AreIndexesBy F (codes ++ code ∷ []) (rows ++ new ∷ [])
AreIndexesBy-push {F} codes code rows new long exact last m =
    elim (row-push rows new m) [
      | inl a ↦ rw a.1 (AreExactly-same new last (λ i. StandsAt-last (λ part _. IsAtIndex F part i) codes code m (a.0 ∙ long)))
      | inr b ↦ rw b.1 (AreExactly-same (row rows m) (exact m) (λ i. StandsAt-other (λ part _. IsAtIndex F part i) codes code m (λ e. b.0 (e ∙ sym long))))
    ]

-- one more method, with the predecessors of its statements
pub ArePredecessorsBy-push : (codes : List (List Code)) (code : List Code) (tables : List (List (List ℕ))) (new : List (List ℕ)) → length tables ≡ length codes
    → ArePredecessorsBy codes tables → ArePredecessors code (row new) → ArePredecessorsBy (codes ++ code ∷ []) (tables ++ new ∷ [])
ArePredecessorsBy-push codes code tables new long exact last m s =
    elim (row-push tables new m) [
      | inl a ↦ rw a.1 (AreExactly-same (row new s) (last s) (λ t. StandsAt-last (λ part _. GoesOn part s t) codes code m (a.0 ∙ long)))
      | inr b ↦ rw b.1 (AreExactly-same (row (row tables m) s) (exact m s) (λ t. StandsAt-other (λ part _. GoesOn part s t) codes code m (λ e. b.0 (e ∙ sym long))))
    ]
