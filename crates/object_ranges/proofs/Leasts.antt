-- The least number of which a fact holds, from those of other facts.
use Rattle.std.proofs.Common.{◌≡◌, ℕ, ◌<◌, ◌≤◌, ◌⊎◌, min, false, true, true≢false, Option, Some, None, refl, sym, ap, subst, inl, inr, arith}
use Rattle.std.specs.Option.{is_some}
use Rattle.object_ranges.specs.Marks.{IsLeastOf, earlier}

below_or : (a b : ℕ) → (a < b) ⊎ (b ≤ a)
below_or a b = grind arith

-- a number by itself
pub least_one : (x : Option ℕ) → IsLeastOf (λ n. x ≡ Some n) x
least_one None = λ n e. cc
least_one (Some a) = record { holds = refl; first = λ m lt e. let same : a ≡ m = some_same a m e in omega (arith, lt, same) }
  where
    some_same : (a m : ℕ) → Some a ≡ Some m → a ≡ m
    some_same a m e = cc

-- of two facts
module _ (P Q R : ℕ → Type 0) (split : (n : ℕ) → R n → P n ⊎ Q n) (one : (n : ℕ) → P n → R n) (other : (n : ℕ) → Q n → R n) where
  pub least_both : (a b : Option ℕ) → IsLeastOf P a → IsLeastOf Q b → IsLeastOf R (earlier a b)
  least_both None None none no_other = λ n r. elim (split n r) [ inl p ↦ none n p | inr q ↦ no_other n q ]
  least_both None (Some y) none is = record {
    holds = other y is.holds;
    first = λ m lt r. elim (split m r) [ inl p ↦ none m p | inr q ↦ is.first m lt q ];
  }
  least_both (Some x) None is none = record {
    holds = one x is.holds;
    first = λ m lt r. elim (split m r) [ inl p ↦ is.first m lt p | inr q ↦ none m q ];
  }
  least_both (Some x) (Some y) a b = record {
    holds = elim (below_or x y) [
      | inl lt ↦ let e : x ≡ min x y = omega (arith, lt) in subst R e (one x a.holds)
      | inr le ↦ let e : y ≡ min x y = omega (arith, le) in subst R e (other y b.holds)
    ];
    first = λ m lt r. elim (split m r) [ inl p ↦ a.first m (omega (arith, lt)) p | inr q ↦ b.first m (omega (arith, lt)) q ];
  }

-- where each number of the one fact has one of the other at it or below it
pub least_under : (P Q : ℕ → Type 0) → ((n : ℕ) → P n → Q n) → ((n : ℕ) → Q n → (m : ℕ) × (m ≤ n) × P m) → (o : Option ℕ) → IsLeastOf P o → IsLeastOf Q o
least_under P Q to from None none = λ n q. let p = from n q in none p.0 p.2
least_under P Q to from (Some x) is = record {
  holds = to x is.holds;
  first = λ m lt q. let p = from m q in is.first p.0 (omega (arith, lt, p.1)) p.2;
}

pub least_same : (P Q : ℕ → Type 0) → ((n : ℕ) → P n → Q n) → ((n : ℕ) → Q n → P n) → (o : Option ℕ) → IsLeastOf P o → IsLeastOf Q o
least_same P Q to from o is = least_under P Q to (λ n q. (n, omega arith, from n q)) o is

-- ---- the lesser of two

pub earlier_none : (a : Option ℕ) → earlier a None ≡ a
earlier_none None = refl
earlier_none (Some x) = refl

pub earlier_assoc : (a b c : Option ℕ) → earlier (earlier a b) c ≡ earlier a (earlier b c)
earlier_assoc None b c = refl
earlier_assoc (Some x) None c = refl
earlier_assoc (Some x) (Some y) None = refl
earlier_assoc (Some x) (Some y) (Some z) = let e : min (min x y) z ≡ min x (min y z) = omega arith in ap Some e

-- it is one of them
pub earlier_of : (a b : Option ℕ) (n : ℕ) → earlier a b ≡ Some n → (a ≡ Some n) ⊎ (b ≡ Some n)
earlier_of None b n e = inr e
earlier_of (Some x) None n e = inl e
earlier_of (Some x) (Some y) n e = elim (below_or x y) [
  | inl lt ↦ let m : min x y ≡ x = omega (arith, lt) in inl (subst (λ z. Some z ≡ Some n) m e)
  | inr le ↦ let m : min x y ≡ y = omega (arith, le) in inr (subst (λ z. Some z ≡ Some n) m e)
]

-- and at most each of them
pub earlier_first : (a b : Option ℕ) (n : ℕ) → a ≡ Some n → (m : ℕ) × (m ≤ n) × (earlier a b ≡ Some m)
earlier_first a b n e = subst (λ x. (m : ℕ) × (m ≤ n) × (earlier x b ≡ Some m)) (sym e) (by b)
  where
    by : (b : Option ℕ) → (m : ℕ) × (m ≤ n) × (earlier (Some n) b ≡ Some m)
    by None = (n, omega arith, refl)
    by (Some y) = (min n y, omega arith, refl)

pub earlier_second : (a b : Option ℕ) (n : ℕ) → b ≡ Some n → (m : ℕ) × (m ≤ n) × (earlier a b ≡ Some m)
earlier_second a b n e = subst (λ x. (m : ℕ) × (m ≤ n) × (earlier a x ≡ Some m)) (sym e) (by a)
  where
    by : (a : Option ℕ) → (m : ℕ) × (m ≤ n) × (earlier a (Some n) ≡ Some m)
    by None = (n, omega arith, refl)
    by (Some x) = (min x n, omega arith, refl)

-- where there is no least number, no number has the fact
pub none_has : (P : ℕ → Type 0) (o : Option ℕ) → is_some o ≡ false → IsLeastOf P o → (n : ℕ) → P n → ⊥
none_has P None e is = is
none_has P (Some n) e is = absurd (true≢false e)

-- and where there is one, some number has it
pub some_has : (P : ℕ → Type 0) (o : Option ℕ) → is_some o ≡ true → IsLeastOf P o → (n : ℕ) × P n
some_has P None e is = absurd (true≢false (sym e))
some_has P (Some n) e is = (n, is.holds)
