-- The elements of a list that have a fact, each once.
use Rattle.std.proofs.Common.{◌≡◌, ℕ, ◌+◌, ◌<◌, Bool, true, false, List, length, take, get_or, sym, inl, inr}
use Rattle.std.specs.List.{list_any}
use Rattle.lists.specs.Lists.{Has, Adds, AreAll}
use Rattle.lists.proofs.Places.{Has-adds_itself, IsApart-adds, slice_get-adds, slice_get-added}
use Rattle.demand_set.proofs.Appended.{Has-take_kept, Has-take_last, Has-take_more}
use Rattle.lists.proofs.Keys.{has-list_any, not-list_any}

module _ {X : Type 0} where
  -- one more has the fact
  pub AreAll-found : (P : X → Type 0) (xs old new : List X) (i : ℕ) (d : X) → i < length xs → AreAll (λ x. Has (take i xs) x × P x) old → Adds old (get_or xs i d) new
      → P (get_or xs i d) → AreAll (λ x. Has (take (i + 1) xs) x × P x) new
  AreAll-found P xs old new i d h are adds p = record {
    each = λ x has. elim (slice_get-added old new (get_or xs i d) adds has.0 x has.1) [
      | inl a ↦ let q = are.each x (has.0, a) in (Has-take_kept xs i d x h q.0, q.1)
      | inr b ↦ rw b (Has-take_last xs i d h, p)
    ];
    all = λ x q. elim (Has-take_more xs i d x h q.0) [
      | inl a ↦ let r = are.all x (a, q.1) in (r.0, slice_get-adds old new (get_or xs i d) adds r.0 x r.1)
      | inr b ↦ rw b (Has-adds_itself old new (get_or xs i d) adds)
    ];
    apart = IsApart-adds old new (get_or xs i d) are.apart adds;
  }

  -- one more hasn't
  pub AreAll-skipped : (P : X → Type 0) (xs old : List X) (i : ℕ) (d : X) → i < length xs → AreAll (λ x. Has (take i xs) x × P x) old → (P (get_or xs i d) → ⊥)
      → AreAll (λ x. Has (take (i + 1) xs) x × P x) old
  AreAll-skipped P xs old i d h are not = record {
    each = λ x has. let q = are.each x has in (Has-take_kept xs i d x h q.0, q.1);
    all = λ x q. elim (Has-take_more xs i d x h q.0) [ inl a ↦ are.all x (a, q.1) | inr b ↦ absurd (not (rw b at (q.1))) ];
    apart = are.apart;
  }

  module _ (eq : X → X → Bool) (same : (x y : X) → eq x y ≡ true → x ≡ y) (self : (x : X) → eq x x ≡ true) where
    -- what the test finds is there
    pub has-found : (xs : List X) (x : X) → list_any (λ y. eq y x) xs ≡ true → Has xs x
    has-found xs x h = has-list_any (λ k y. eq y k) (λ k y e. sym (same y k e)) self xs x h

    -- what it doesn't find isn't
    pub not-found : (xs : List X) (x : X) → list_any (λ y. eq y x) xs ≡ false → Has xs x → ⊥
    not-found xs x h has = not-list_any (λ k y. eq y k) (λ k y e. sym (same y k e)) self xs x has.0 h has.1
