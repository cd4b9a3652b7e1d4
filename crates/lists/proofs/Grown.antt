-- Lists that have grown, at their end, or by those with a fact.
use Rattle.std.proofs.Common.{◌≡◌, ◌⊎◌, ◌∙◌, ℕ, ◌<◌, List, [], ◌∷◌, ◌++◌, Some, length, slice_get, refl, sym, ap, subst, inl, inr, append_assoc}
use Rattle.std.proofs.lemmas.List.{append-nil}
use Rattle.lists.specs.Grown.{IsGrownBy, IsLonger}
use Rattle.lists.specs.Lists.{Adds, Has}
use Rattle.lists.proofs.Places.{slice_get-append_left, slice_get-push, slice_get-pushed, slice_get-there}

module _ {X : Type 0} where
  pub longer_none : (xs : List X) → IsLonger xs xs
  longer_none xs = ([], sym (append-nil xs))

  pub longer_push : (xs : List X) (x : X) → IsLonger xs (xs ++ x ∷ [])
  longer_push xs x = (x ∷ [], refl)

  pub longer_adds : (old : List X) (x : X) (new : List X) → Adds old x new → IsLonger old new
  longer_adds old x new (inl is) = subst (IsLonger old) (sym is.1) (longer_none old)
  longer_adds old x new (inr is) = (x ∷ [], is.1)

  pub longer_more : (a b c : List X) → IsLonger a b → IsLonger b c → IsLonger a c
  longer_more a b c first second =
      (first.0 ++ second.0, second.1 ∙ ap (λ (xs : List X). xs ++ second.0) first.1 ∙ append_assoc a first.0 second.0)

  pub got_longer : (old new : List X) → IsLonger old new → (i : ℕ) (x : X) → slice_get old i ≡ Some x → slice_get new i ≡ Some x
  got_longer old new longer i x h =
      subst (λ (xs : List X). slice_get xs i ≡ Some x) (sym longer.1) (slice_get-append_left old longer.0 i x h)

  pub has_longer : (old new : List X) → IsLonger old new → (x : X) → Has old x → Has new x
  has_longer old new longer x has = (has.0, got_longer old new longer has.0 x has.1)

  -- an element of the front of a longer list stands in the front
  pub got_shorter : (old new : List X) → IsLonger old new → (i : ℕ) (x : X) → i < length old → slice_get new i ≡ Some x → slice_get old i ≡ Some x
  got_shorter old new longer i x low h =
      let there = slice_get-there old i low in
      let again = got_longer old new longer i there.0 there.1 in
      let same : there.0 ≡ x = cc in
      there.1 ∙ ap Some same

  -- by none
  pub grown_none : (P : X → Type 0) (xs : List X) → ((x : X) → P x → ⊥) → IsGrownBy P xs xs
  grown_none P xs none = record { same = λ i x e. e; each = λ x has. inl has; all = λ x h. absurd (none x h) }

  -- by those with another fact that says the same
  pub grown_same : (P Q : X → Type 0) (a b : List X) → IsGrownBy P a b → ((x : X) → P x → Q x) → ((x : X) → Q x → P x) → IsGrownBy Q a b
  grown_same P Q a b g to back = record {
    same = g.same;
    each = λ x has. elim (g.each x has) [ inl old ↦ inl old | inr new ↦ inr (to x new) ];
    all = λ x h. g.all x (back x h);
  }

  -- by some and then by others
  pub grown_then : (P R Q : X → Type 0) (a b c : List X) → IsGrownBy P a b → IsGrownBy R b c → ((x : X) → P x → Q x) → ((x : X) → R x → Q x)
      → ((x : X) → Q x → P x ⊎ R x) → IsGrownBy Q a c
  grown_then P R Q a b c first second left right split = record {
    same = λ i x e. second.same i x (first.same i x e);
    each = λ x has. elim (second.each x has) [
      | inl old ↦ elim (first.each x old) [ inl there ↦ inl there | inr new ↦ inr (left x new) ]
      | inr new ↦ inr (right x new)
    ];
    all = λ x h. elim (split x h) [
      | inl p ↦ let there = first.all x p in (there.0, second.same there.0 x there.1)
      | inr r ↦ second.all x r
    ];
  }

  -- by one
  pub grown_one : (x : X) (a b : List X) → Adds a x b → IsGrownBy (λ y. y ≡ x) a b
  grown_one x a b adds = elim adds [
    | inl there ↦ record {
      same = λ i y e. rw there.1 e;
      each = λ y has. inl (has.0, rw there.1 at has.1);
      all = λ y is. rw there.1 (subst (Has a) (sym is) there.0);
    }
    | inr new ↦ record {
      same = λ i y e. rw new.1 (slice_get-append_left a (x ∷ []) i y e);
      each = λ y has. elim (slice_get-pushed a x has.0 y (rw new.1 at has.1)) [ inl old ↦ inl (has.0, old) | inr last ↦ inr last.1 ];
      all = λ y is. rw new.1 (length a, subst (λ z. slice_get (a ++ x ∷ []) (length a) ≡ Some z) (sym is) (slice_get-push a x));
    }
  ]
