-- Marked elements of a list.
use Rattle.std.specs.Prelude.{◌≡◌, ℕ, zero, suc, ◌↔◌, Bool, true, false, List, [], ◌∷◌, Some, length, slice_get}
use Rattle.cert_rules.specs.declared.line.Line.{Line}
use Rattle.cert_make.specs.Needs.{IsNeeded}

-- the element with the number, from 1, is marked
abbrev pub IsMarked : List Bool → ℕ → Type 0
IsMarked marks zero = ⊥
IsMarked marks (suc i) = slice_get marks i ≡ Some true

-- there is a mark for each line, and the claim needs the marked lines
pub record MarksNeeded (lines : List Line) (claim : Line) (marks : List Bool) : Type 0 where
  pub as_many : length marks ≡ length lines
  pub exact : (number : ℕ) → IsMarked marks number ↔ IsNeeded lines claim number

-- the marked elements, in their order
abbrev pub selected : {X : Type 0} → List Bool → List X → List X
selected [] xs = []
selected (mark ∷ marks) [] = []
selected (true ∷ marks) (x ∷ xs) = x ∷ selected marks xs
selected (false ∷ marks) (x ∷ xs) = selected marks xs

-- how many of the first so many are marked
abbrev pub rank : List Bool → ℕ → ℕ
rank [] i = 0
rank (mark ∷ marks) zero = 0
rank (true ∷ marks) (suc i) = suc (rank marks i)
rank (false ∷ marks) (suc i) = rank marks i

-- each marked element has the number that it has among the marked ones
abbrev pub IsAnew : List Bool → (ℕ → ℕ) → Type 0
IsAnew marks new = (i : ℕ) → slice_get marks i ≡ Some true → new (suc i) ≡ suc (rank marks i)
