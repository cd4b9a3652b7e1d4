-- The order in which a class and its interfaces are looked through for a field, as field resolution in the Java Virtual
-- Machine Specification goes: depth first, a class as often as it is reached.
use Rattle.std.specs.Prelude.{ℕ, Option, None, List, [], ◌∷◌, ◌++◌}
use Rattle.std.specs.Option.{option_or}

mutual
  -- a class, and then its interfaces in order
  pub data Order (interfaces : ℕ → List ℕ) : ℕ → List ℕ → Type 0 where
    class_first : {c : ℕ} {xs : List ℕ} → Orders interfaces (interfaces c) xs → Order interfaces c (c ∷ xs)

  -- classes in order, each with its own interfaces
  pub data Orders (interfaces : ℕ → List ℕ) : List ℕ → List ℕ → Type 0 where
    no_more : Orders interfaces [] []
    each : {c : ℕ} {cs xs ys : List ℕ} → Order interfaces c xs → Orders interfaces cs ys → Orders interfaces (c ∷ cs) (xs ++ ys)

-- what the first element for which f gives something gives
abbrev pub first_found : (ℕ → Option ℕ) → List ℕ → Option ℕ
first_found f [] = None
first_found f (x ∷ xs) = option_or (f x) (first_found f xs)
