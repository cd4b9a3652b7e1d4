-- What is told of questions that have numbers, which go on from one that is given. It is this project's own.
use Rattle.std.specs.Prelude.{◌≡◌, ◌+◌, ℕ, List, Some, length, slice_get}

-- there are so many texts, and each is one that may be told of its number
pub record AreTold (tells : ℕ → List ℕ → Type 0) (first count : ℕ) (texts : List (List ℕ)) : Type 0 where
  pub count_is : length texts ≡ count
  pub each : (i : ℕ) (text : List ℕ) → slice_get texts i ≡ Some text → tells (first + i) text

-- so many questions have one list of texts at most
abbrev pub HaveOneAnswer : (ℕ → List ℕ → Type 0) → Type 0
HaveOneAnswer tells = (count : ℕ) (texts others : List (List ℕ)) → AreTold tells 0 count texts → AreTold tells 0 count others → texts ≡ others
