-- The first element that passes a test, in a list that grows.
use Rattle.std.proofs.Common.{◌≡◌, ℕ, zero, suc, true≢false, slice_get, ◌+◌, ◌<◌, Bool, true, false, ◌&&◌, Option, Some, None, List, [], ◌∷◌, ◌++◌, length, take, get_or, cond, refl, sym, ap, ◌∙◌, arith, add-zero, zero-add, length-take}
use Rattle.std.proofs.lemmas.List.{take_more}
use Rattle.std.specs.List.{position_from}
use Rattle.std.specs.Option.{option_or, is_some}

position_from-push : {X : Type 0} (t : X → Bool) (n : ℕ) (xs : List X) (y : X)
    → position_from t n (xs ++ y ∷ []) ≡ option_or (position_from t n xs) (cond (t y) (Some (n + length xs)) None)
position_from-push t n [] y = rw add-zero refl
position_from-push t n (x ∷ xs) y = by (t x) (position_from-push t (n + 1) xs y)
  where
    by : (b : Bool) → position_from t (n + 1) (xs ++ y ∷ []) ≡ option_or (position_from t (n + 1) xs) (cond (t y) (Some (n + 1 + length xs)) None)
        → cond b (Some n) (position_from t (n + 1) (xs ++ y ∷ [])) ≡ option_or (cond b (Some n) (position_from t (n + 1) xs)) (cond (t y) (Some (n + length (x ∷ xs))) None)
    by true h = refl
    by false h = let e : n + 1 + length xs ≡ n + length (x ∷ xs) = omega arith in h ∙ ap (λ k. option_or (position_from t (n + 1) xs) (cond (t y) (Some k) None)) e

-- one more element is looked at
pub position_from-more : {X : Type 0} (t : X → Bool) (xs : List X) (i : ℕ) (d : X) → i < length xs
    → position_from t 0 (take (i + 1) xs) ≡ option_or (position_from t 0 (take i xs)) (cond (t (get_or xs i d)) (Some i) None)
position_from-more t xs i d h = let n : length (take i xs) ≡ i = omega (arith, length-take i xs) in rw (take_more xs i d) (position_from-push t 0 (take i xs) (get_or xs i d) ∙ ap (λ k. option_or (position_from t 0 (take i xs)) (cond (t (get_or xs i d)) (Some k) None)) (rw zero-add n))

-- what stood first, and then the element at i
pub position_from-next : {X : Type 0} (t : X → Bool) (xs : List X) (i : ℕ) (d : X) (old new : Option ℕ) → i < length xs
    → old ≡ position_from t 0 (take i xs) → new ≡ option_or old (cond (t (get_or xs i d)) (Some i) None) → new ≡ position_from t 0 (take (i + 1) xs)
position_from-next t xs i d old new h was is = is ∙ ap (λ o. option_or o (cond (t (get_or xs i d)) (Some i) None)) was ∙ sym (position_from-more t xs i d h)

-- the element passes one more test
pub position_from-next_if : {X : Type 0} (t u : X → Bool) (xs : List X) (i : ℕ) (d : X) (old new : Option ℕ) → i < length xs → u (get_or xs i d) ≡ true
    → old ≡ position_from (λ x. t x && u x) 0 (take i xs) → new ≡ option_or old (cond (t (get_or xs i d)) (Some i) None) → new ≡ position_from (λ x. t x && u x) 0 (take (i + 1) xs)
position_from-next_if t u xs i d old new h passes was is = position_from-next (λ x. t x && u x) xs i d old new h was (is ∙ ap (λ b. option_or old (cond b (Some i) None)) (sym (ap (λ b. t (get_or xs i d) && b) passes ∙ and-true (t (get_or xs i d)))))
  where
    and-true : (b : Bool) → (b && true) ≡ b
    and-true true = refl
    and-true false = refl

-- the element fails the test
pub position_from-next_not : {X : Type 0} (t : X → Bool) (xs : List X) (i : ℕ) (d : X) (old new : Option ℕ) → i < length xs → t (get_or xs i d) ≡ false
    → old ≡ position_from t 0 (take i xs) → new ≡ old → new ≡ position_from t 0 (take (i + 1) xs)
position_from-next_not t xs i d old new h fails was is = position_from-next t xs i d old new h was (is ∙ sym (option_or-none old) ∙ ap (λ b. option_or old (cond b (Some i) None)) (sym fails))
  where
    option_or-none : (r : Option ℕ) → option_or r None ≡ r
    option_or-none None = refl
    option_or-none (Some x) = refl

-- it fails that test
pub position_from-next_skip : {X : Type 0} (t u : X → Bool) (xs : List X) (i : ℕ) (d : X) (old new : Option ℕ) → i < length xs → u (get_or xs i d) ≡ false
    → old ≡ position_from (λ x. t x && u x) 0 (take i xs) → new ≡ old → new ≡ position_from (λ x. t x && u x) 0 (take (i + 1) xs)
position_from-next_skip t u xs i d old new h fails was is = position_from-next (λ x. t x && u x) xs i d old new h was (is ∙ sym (option_or-none old) ∙ ap (λ b. option_or old (cond b (Some i) None)) (sym (ap (λ b. t (get_or xs i d) && b) fails ∙ and-false (t (get_or xs i d)))))
  where
    and-false : (b : Bool) → (b && false) ≡ false
    and-false true = refl
    and-false false = refl

    option_or-none : (r : Option ℕ) → option_or r None ≡ r
    option_or-none None = refl
    option_or-none (Some x) = refl

-- ---- whether one is found

pub found_at : {X : Type 0} (t : X → Bool) (n : ℕ) (xs : List X) → is_some (position_from t n xs) ≡ true → (i : ℕ) × (x : X) × (slice_get xs i ≡ Some x) × (t x ≡ true)
found_at t n [] h = absurd (true≢false (sym h))
found_at {X = X} t n (x ∷ xs) h = by (t x) refl h (found_at t (n + 1) xs)
  where
    by : (b : Bool) → t x ≡ b → is_some (cond b (Some n) (position_from t (n + 1) xs)) ≡ true → (is_some (position_from t (n + 1) xs) ≡ true → (i : ℕ) × (y : X) × (slice_get xs i ≡ Some y) × (t y ≡ true))
        → (i : ℕ) × (y : X) × (slice_get (x ∷ xs) i ≡ Some y) × (t y ≡ true)
    by true e h rest = (0, x, refl, e)
    by false e h rest = let p = rest h in (suc p.0, p.1, p.2, p.3)

pub found_from : {X : Type 0} (t : X → Bool) (n : ℕ) (xs : List X) (i : ℕ) (x : X) → slice_get xs i ≡ Some x → t x ≡ true → is_some (position_from t n xs) ≡ true
found_from t n [] i x h p = cc
found_from t n (y ∷ ys) zero x h p = let same : y ≡ x = cc in let e : t y ≡ true = ap t same ∙ p in ap (λ b. is_some (cond b (Some n) (position_from t (n + 1) ys))) e
found_from t n (y ∷ ys) (suc i) x h p = by (t y) refl (found_from t (n + 1) ys i x h p)
  where
    by : (b : Bool) → t y ≡ b → is_some (position_from t (n + 1) ys) ≡ true → is_some (cond (t y) (Some n) (position_from t (n + 1) ys)) ≡ true
    by true e q = ap (λ b. is_some (cond b (Some n) (position_from t (n + 1) ys))) e
    by false e q = ap (λ b. is_some (cond b (Some n) (position_from t (n + 1) ys))) e ∙ q
