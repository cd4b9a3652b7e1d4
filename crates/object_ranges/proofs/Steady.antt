-- Up to where the last of some turns at a place or before it tells the same.
use Rattle.std.proofs.Common.{◌≡◌, ℕ, ◌<◌, ◌≤◌, ◌⊎◌, min, true, false, cond, leb, List, [], ◌∷◌, length, get_or, ap, inl, inr, arith}
use Rattle.std.specs.List.Sorted.{IsNonDecreasingBy, IsPartitionPoint}
use Rattle.lists.proofs.Elements.{same_read}
use Rattle.default_turns.proofs.Turning.{has_come, is_to_come, told_alike}
use Rattle.object_ranges.specs.Selections.{IsSteady}

below_or : (a b : ℕ) → (a < b) ⊎ (b ≤ a)
below_or a b = grind arith

module _ (T : Type 0) (A : Type 0) (at : T → ℕ) (value : T → A) (told : A → List T → ℕ → A) (none : (a : A) (n : ℕ) → told a [] n ≡ a)
    (more : (a : A) (t : T) (ts : List T) (n : ℕ) → told a (t ∷ ts) n ≡ cond (leb (at t) n) (told (value t) ts n) a) where
  -- the turns before an index have come, and the others not yet
  module _ (a : A) (ts : List T) (place after : ℕ) (bound : after ≤ length ts) (point : IsPartitionPoint (λ t. leb (at t) place ≡ true) (λ t. leb (at t) place ≡ false) ts after) where
    module _ (end : ℕ) (before : place < end) where
      -- up to the end
      pub steady_end : length ts ≤ after → IsSteady (told a ts) place end end
      steady_end over = record {
        on = before;
        within = omega arith;
        same = λ q le lt. told_alike T A at value told none more a ts place q le (λ k d h. inl (has_come T A at value told none more a ts place after bound point k d (omega (arith, h, over))));
      }

      -- up to the next turn
      pub steady_next : IsNonDecreasingBy at ts → (d : T) → after < length ts → (until : ℕ) → until ≡ min end (at (get_or ts after d)) → IsSteady (told a ts) place end until
      steady_next rising d h until is =
          let next = is_to_come T A at value told none more a ts place after bound point after d (omega arith) h in
          record {
            on = omega (arith, is, next, before);
            within = omega (arith, is);
            same = λ q le lt. told_alike T A at value told none more a ts place q le (λ k e within. elim (below_or k after) [
              | inl passed ↦ inl (has_come T A at value told none more a ts place after bound point k e passed)
              | inr coming ↦ inr (omega (arith, is, lt, rising after k d coming within, same_at k e within))
            ]);
          }
        where
          same_at : (k : ℕ) (e : T) → k < length ts → at (get_or ts k d) ≡ at (get_or ts k e)
          same_at k e within = ap at (same_read ts k d e within)
