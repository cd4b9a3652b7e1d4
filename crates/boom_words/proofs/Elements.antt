-- Lists by their elements.
use Rattle.std.proofs.Common.{◌≡◌, ℕ, zero, suc, ◌<◌, List, [], ◌∷◌, ◌++◌, length, get_or, map, take, refl, arith}
use Rattle.std.specs.List.{AllZip}

-- a list of one element is its element
pub one : {X : Type 0} (xs : List X) (a : X) → length xs ≡ 1 → a ≡ get_or xs 0 a → xs ≡ a ∷ []
one [] a h p = absurd (omega arith)
one (x0 ∷ []) a h p = cc
one (x0 ∷ x1 ∷ xs) a h p = absurd (omega arith)

-- a list of two elements is its elements
pub two : {X : Type 0} (xs : List X) (a b : X) → length xs ≡ 2 → a ≡ get_or xs 0 a → b ≡ get_or xs 1 b → xs ≡ a ∷ b ∷ []
two [] a b h p q = absurd (omega arith)
two (x0 ∷ []) a b h p q = absurd (omega arith)
two (x0 ∷ x1 ∷ []) a b h p q = cc
two (x0 ∷ x1 ∷ x2 ∷ xs) a b h p q = absurd (omega arith)

-- a list of four elements is its elements
pub four : {X : Type 0} (xs : List X) (a b c d : X) → length xs ≡ 4 → a ≡ get_or xs 0 a → b ≡ get_or xs 1 b → c ≡ get_or xs 2 c → d ≡ get_or xs 3 d
    → xs ≡ a ∷ b ∷ c ∷ d ∷ []
four [] a b c d h p q r s = absurd (omega arith)
four (x0 ∷ []) a b c d h p q r s = absurd (omega arith)
four (x0 ∷ x1 ∷ []) a b c d h p q r s = absurd (omega arith)
four (x0 ∷ x1 ∷ x2 ∷ []) a b c d h p q r s = absurd (omega arith)
four (x0 ∷ x1 ∷ x2 ∷ x3 ∷ []) a b c d h p q r s = cc
four (x0 ∷ x1 ∷ x2 ∷ x3 ∷ x4 ∷ xs) a b c d h p q r s = absurd (omega arith)

-- a list of five elements is its elements
pub five : {X : Type 0} (xs : List X) (a b c d e : X) → length xs ≡ 5 → a ≡ get_or xs 0 a → b ≡ get_or xs 1 b → c ≡ get_or xs 2 c → d ≡ get_or xs 3 d
    → e ≡ get_or xs 4 e → xs ≡ a ∷ b ∷ c ∷ d ∷ e ∷ []
five [] a b c d e h p q r s t = absurd (omega arith)
five (x0 ∷ []) a b c d e h p q r s t = absurd (omega arith)
five (x0 ∷ x1 ∷ []) a b c d e h p q r s t = absurd (omega arith)
five (x0 ∷ x1 ∷ x2 ∷ []) a b c d e h p q r s t = absurd (omega arith)
five (x0 ∷ x1 ∷ x2 ∷ x3 ∷ []) a b c d e h p q r s t = absurd (omega arith)
five (x0 ∷ x1 ∷ x2 ∷ x3 ∷ x4 ∷ []) a b c d e h p q r s t = cc
five (x0 ∷ x1 ∷ x2 ∷ x3 ∷ x4 ∷ x5 ∷ xs) a b c d e h p q r s t = absurd (omega arith)

-- one element more on both sides
pub zip_next : {A B : Type 0} (R : A → B → Type 0) (xs : List A) (ys : List B) (i : ℕ) (d : A) (y : B) → i < length xs
    → AllZip R (take i xs) ys → R (get_or xs i d) y → AllZip R (take (suc i) xs) (ys ++ y ∷ [])
zip_next R [] ys i d y less zip r = absurd (omega arith)
zip_next R (x ∷ xs) [] zero d y less zip r = (r, tt)
zip_next R (x ∷ xs) (z ∷ zs) zero d y less zip r = absurd zip
zip_next R (x ∷ xs) [] (suc i) d y less zip r = absurd zip
zip_next R (x ∷ xs) (z ∷ zs) (suc i) d y less zip r = (zip.0, zip_next R xs zs i d y (omega arith) zip.1 r)

-- what holds of what the elements mean
pub zip_map : {A C B : Type 0} (v : A → C) (R : C → B → Type 0) (xs : List A) (ys : List B) → AllZip (λ x y. R (v x) y) xs ys → AllZip R (map v xs) ys
zip_map v R [] [] zip = tt
zip_map v R [] (y ∷ ys) zip = zip
zip_map v R (x ∷ xs) [] zip = zip
zip_map v R (x ∷ xs) (y ∷ ys) zip = (zip.0, zip_map v R xs ys zip.1)

-- a relation that gives one element for each gives one list
pub zip_one : {A B : Type 0} (R : A → B → Type 0) → ((x : A) (y z : B) → R x y → R x z → y ≡ z) → (xs : List A) (ys zs : List B)
    → AllZip R xs ys → AllZip R xs zs → ys ≡ zs
zip_one R one [] [] [] p q = refl
zip_one R one [] [] (z ∷ zs) p q = absurd q
zip_one R one [] (y ∷ ys) zs p q = absurd p
zip_one R one (x ∷ xs) [] zs p q = absurd p
zip_one R one (x ∷ xs) (y ∷ ys) [] p q = absurd q
zip_one R one (x ∷ xs) (y ∷ ys) (z ∷ zs) p q =
    let first = one x y z p.0 q.0 in
    let rest = zip_one R one xs ys zs p.1 q.1 in
    cc
