-- The tokens that are left.
use Rattle.std.proofs.Common.{◌≡◌, ◌≢◌, ℕ, zero, suc, ◌+◌, ◌<◌, ◌≤◌, List, [], ◌∷◌, drop, length, get_or, refl, arith, add-one}
use Rattle.jim_text.specs.declared.lead.Lead.TheVariants as lead
use Rattle.jim_signs.specs.declared.seen.Sign.{Sign}
use Rattle.jim_stmts.specs.Leads.{lead_at, second_at, third_at}

-- what is left behind one more token
pub drop_tail : (xs : List Sign) (k : ℕ) (s : Sign) (r : List Sign) → drop k xs ≡ s ∷ r → drop (k + 1) xs ≡ r
drop_tail xs k s r h = rw add-one (tail xs k s r h)
  where
    tail : (xs : List Sign) (k : ℕ) (s : Sign) (r : List Sign) → drop k xs ≡ s ∷ r → drop (suc k) xs ≡ r
    tail [] zero s r h = cc
    tail [] (suc k) s r h = cc
    tail (x ∷ xs) zero s r h = cc
    tail (x ∷ xs) (suc k) s r h = tail xs k s r h

-- the second token that is left
pub second_some : (xs : List Sign) (k : ℕ) (d : Sign) → k + 1 < length xs → second_at (drop k xs) ≡ (get_or xs (k + 1) d).lead
second_some xs k d h = rw add-one (at xs k (omega arith))
  where
    at : (xs : List Sign) (k : ℕ) → suc k < length xs → second_at (drop k xs) ≡ (get_or xs (suc k) d).lead
    at [] k h = absurd (omega arith)
    at (x ∷ []) k h = absurd (omega arith)
    at (x ∷ y ∷ xs) zero h = refl
    at (x ∷ y ∷ xs) (suc k) h = at (y ∷ xs) k (omega arith)

-- no second token is left
pub second_none : (xs : List Sign) (k : ℕ) → length xs ≤ k + 1 → second_at (drop k xs) ≡ lead.Other
second_none [] zero h = refl
second_none [] (suc k) h = refl
second_none (x ∷ []) zero h = refl
second_none (x ∷ y ∷ xs) zero h = absurd (omega arith)
second_none (x ∷ xs) (suc k) h = second_none xs k (omega arith)

-- the third token that is left
pub third_some : (xs : List Sign) (k : ℕ) (d : Sign) → k + 2 < length xs → third_at (drop k xs) ≡ (get_or xs (k + 2) d).lead
third_some xs k d h = let e : k + 2 ≡ suc (suc k) = omega arith in rw e (at xs k (omega arith))
  where
    at : (xs : List Sign) (k : ℕ) → suc (suc k) < length xs → third_at (drop k xs) ≡ (get_or xs (suc (suc k)) d).lead
    at [] k h = absurd (omega arith)
    at (x ∷ []) k h = absurd (omega arith)
    at (x ∷ y ∷ []) k h = absurd (omega arith)
    at (x ∷ y ∷ z ∷ xs) zero h = refl
    at (x ∷ y ∷ z ∷ xs) (suc k) h = at (y ∷ z ∷ xs) k (omega arith)

-- no third token is left
pub third_none : (xs : List Sign) (k : ℕ) → length xs ≤ k + 2 → third_at (drop k xs) ≡ lead.Other
third_none [] zero h = refl
third_none [] (suc k) h = refl
third_none (x ∷ []) zero h = refl
third_none (x ∷ y ∷ []) zero h = refl
third_none (x ∷ y ∷ z ∷ xs) zero h = absurd (omega arith)
third_none (x ∷ xs) (suc k) h = third_none xs k (omega arith)

-- a token that has a class is left
pub left_where_lead : (w : List Sign) → lead_at w ≢ lead.Other → 0 < length w
left_where_lead [] n = absurd (n refl)
left_where_lead (s ∷ r) n = omega arith
