-- A table of ASCII characters.
use Rattle.std.proofs.Common.{◌≡◌, ℕ, zero, suc, ◌<◌, Bool, true, false, ◌&&◌, ◌||◌, ◌==◌, not, nat_eq, List, [], ◌∷◌, slice_index_or, refl, sym, ap, ◌∙◌, inl, inr, arith, true≢false}
use Rattle.std.specs.Bool.{beq}
use Rattle.std.specs.Char.{is_ascii_alphanumeric}
use Rattle.unicode_ident.proofs.IdentLemmas.{is_xid_continue-ascii}
use Rattle.jim_text.specs.Spelling.{is_continue}
use Rattle.jim_text.proofs.DigitLemmas.{both, order}

-- a table of ASCII characters says of each what a test says
abbrev pub agrees : List ℕ → (ℕ → Bool) → ℕ → Bool
agrees table is b = beq (not (nat_eq (slice_index_or table b 0) 0)) (is b)

abbrev pub all_below : (ℕ → Bool) → ℕ → Bool
all_below p zero = true
all_below p (suc n) = p n && all_below p n

all_below-each : (p : ℕ → Bool) (n : ℕ) → all_below p n ≡ true → (b : ℕ) → b < n → p b ≡ true
all_below-each p zero h b low = absurd (omega (arith, low))
all_below-each p (suc n) h b low =
    let parts = both (p n) (all_below p n) h in
    elim (order b n) [ inl below ↦ all_below-each p n parts.1 b below | inr at ↦ let same : b ≡ n = omega (arith, low, at) in rw same parts.0 ]

same_test : (a b : Bool) → beq a b ≡ true → a ≡ b
same_test true true h = refl
same_test true false h = absurd (true≢false (sym h))
same_test false true h = absurd (true≢false (sym h))
same_test false false h = refl

-- the table of the characters that go on a plain component
abbrev pub continues : List ℕ
continues =
    0 ∷ 0 ∷ 0 ∷ 0 ∷ 0 ∷ 0 ∷ 0 ∷ 0 ∷ 0 ∷ 0 ∷ 0 ∷ 0 ∷ 0 ∷ 0 ∷ 0 ∷ 0 ∷ 0 ∷ 0 ∷ 0 ∷ 0 ∷ 0 ∷ 0 ∷ 0 ∷ 0 ∷ 0 ∷ 0 ∷ 0 ∷ 0 ∷ 0 ∷ 0 ∷ 0 ∷ 0 ∷
    0 ∷ 0 ∷ 0 ∷ 1 ∷ 1 ∷ 0 ∷ 0 ∷ 0 ∷ 0 ∷ 0 ∷ 0 ∷ 0 ∷ 0 ∷ 1 ∷ 0 ∷ 0 ∷ 1 ∷ 1 ∷ 1 ∷ 1 ∷ 1 ∷ 1 ∷ 1 ∷ 1 ∷ 1 ∷ 1 ∷ 0 ∷ 0 ∷ 0 ∷ 0 ∷ 0 ∷ 0 ∷
    0 ∷ 1 ∷ 1 ∷ 1 ∷ 1 ∷ 1 ∷ 1 ∷ 1 ∷ 1 ∷ 1 ∷ 1 ∷ 1 ∷ 1 ∷ 1 ∷ 1 ∷ 1 ∷ 1 ∷ 1 ∷ 1 ∷ 1 ∷ 1 ∷ 1 ∷ 1 ∷ 1 ∷ 1 ∷ 1 ∷ 1 ∷ 0 ∷ 0 ∷ 0 ∷ 0 ∷ 1 ∷
    0 ∷ 1 ∷ 1 ∷ 1 ∷ 1 ∷ 1 ∷ 1 ∷ 1 ∷ 1 ∷ 1 ∷ 1 ∷ 1 ∷ 1 ∷ 1 ∷ 1 ∷ 1 ∷ 1 ∷ 1 ∷ 1 ∷ 1 ∷ 1 ∷ 1 ∷ 1 ∷ 1 ∷ 1 ∷ 1 ∷ 1 ∷ 0 ∷ 0 ∷ 0 ∷ 0 ∷ 0 ∷ []

-- it says which do
pub continue_table : (b : ℕ) → b < 128 → not (nat_eq (slice_index_or continues b 0) 0) ≡ is_continue b
continue_table b small =
    same_test _ _ (all_below-each (agrees continues (λ b. is_ascii_alphanumeric b || (b == 95) || (b == 36) || (b == 35) || (b == 45))) 128 refl b small)
    ∙ ap (λ t. t || (b == 36) || (b == 35) || (b == 45)) (sym (is_xid_continue-ascii b small))
