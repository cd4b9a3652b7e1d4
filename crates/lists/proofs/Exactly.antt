-- Lists that have exactly the elements with a fact.
use Rattle.std.proofs.Common.{◌≡◌, ◌↔◌, ◌⊎◌, List, [], ◌∷◌, ◌++◌, length, get_or, inl, inr}
use Rattle.std.proofs.lemmas.List.Quantifiers.{all_pairs_push}
use Rattle.std.proofs.lemmas.Option.{slice_get-get_or}
use Rattle.lists.specs.Lists.{AreExactly}
use Rattle.lists.proofs.Places.{slice_get-append_left, slice_get-push, slice_get-pushed}

module _ {X : Type 0} where
  -- an element behind all others, which has the fact now
  pub AreExactly-push : {Precedes : X → X → Type 0} {P Q : X → Type 0} (xs : List X) (x : X) → AreExactly Precedes P xs
      → ((y : X) → P y → Precedes y x) → ((y : X) → Q y ↔ (P y ⊎ (y ≡ x))) → AreExactly Precedes Q (xs ++ x ∷ [])
  AreExactly-push {Precedes} {P} {Q} xs x exact behind grown = record {
    each = λ y. (
      (λ has. (grown y).1 (elim (slice_get-pushed xs x has.0 y has.1) [ inl a ↦ inl ((exact.each y).0 (has.0, a)) | inr b ↦ inr b.1 ])),
      (λ fact. elim ((grown y).0 fact) [
        | inl p ↦ let has = (exact.each y).1 p in (has.0, slice_get-append_left xs _ has.0 y has.1)
        | inr e ↦ (length xs, rw e (slice_get-push xs x))
      ]),
    );
    ordered = all_pairs_push Precedes xs x exact.ordered (λ k d below. behind (get_or xs k d) ((exact.each (get_or xs k d)).0 (k, slice_get-get_or xs k d below)));
  }

  -- the same facts said otherwise
  pub AreExactly-same : {Precedes : X → X → Type 0} {P Q : X → Type 0} (xs : List X) → AreExactly Precedes P xs → ((y : X) → Q y ↔ P y) → AreExactly Precedes Q xs
  AreExactly-same xs exact same = record {
    each = λ y. ((λ has. (same y).1 ((exact.each y).0 has)), (λ fact. (exact.each y).1 ((same y).0 fact)));
    ordered = exact.ordered;
  }
