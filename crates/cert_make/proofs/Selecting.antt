-- Marked elements, and how many of them stand before a place.
use Rattle.std.proofs.Common.{◌≡◌, ℕ, zero, suc, ◌<◌, ◌≤◌, Bool, true, false, List, [], ◌∷◌, ◌++◌, Some, length, slice_get, take, refl, ap, arith}
use Rattle.cert_make.proofs.Marks.{rank, selected}

-- up to a place there are no more than places
pub rank_within : (marks : List Bool) (i : ℕ) → rank marks i ≤ i
rank_within [] i = omega arith
rank_within (mark ∷ marks) zero = omega arith
rank_within (true ∷ marks) (suc i) = omega (arith, rank_within marks i)
rank_within (false ∷ marks) (suc i) = omega (arith, rank_within marks i)

-- a marked place counts itself
pub rank_less : (marks : List Bool) (i j : ℕ) → slice_get marks i ≡ Some true → i < j → rank marks i < rank marks j
rank_less [] i j at less = cc
rank_less (mark ∷ marks) i zero at less = absurd (omega arith)
rank_less (true ∷ marks) zero (suc j) at less = omega arith
rank_less (false ∷ marks) zero (suc j) at less = cc
rank_less (true ∷ marks) (suc i) (suc j) at less = omega (arith, rank_less marks i j at (omega arith))
rank_less (false ∷ marks) (suc i) (suc j) at less = rank_less marks i j at (omega arith)

-- marked places with as many before them are one
pub rank_apart : (marks : List Bool) (i j : ℕ) → slice_get marks i ≡ Some true → slice_get marks j ≡ Some true → rank marks i ≡ rank marks j → i ≡ j
rank_apart [] i j p q same = cc
rank_apart (mark ∷ marks) zero zero p q same = refl
rank_apart (true ∷ marks) zero (suc j) p q same = absurd (omega arith)
rank_apart (false ∷ marks) zero (suc j) p q same = cc
rank_apart (true ∷ marks) (suc i) zero p q same = absurd (omega arith)
rank_apart (false ∷ marks) (suc i) zero p q same = cc
rank_apart (true ∷ marks) (suc i) (suc j) p q same = ap suc (rank_apart marks i j p q (omega arith))
rank_apart (false ∷ marks) (suc i) (suc j) p q same = ap suc (rank_apart marks i j p q same)

pub rank-none : (marks : List Bool) → rank marks 0 ≡ 0
rank-none [] = refl
rank-none (mark ∷ marks) = refl

-- one place more
pub rank-suc_marked : (marks : List Bool) (i : ℕ) → slice_get marks i ≡ Some true → rank marks (suc i) ≡ suc (rank marks i)
rank-suc_marked [] i at = cc
rank-suc_marked (true ∷ marks) zero at = ap suc (rank-none marks)
rank-suc_marked (false ∷ marks) zero at = cc
rank-suc_marked (true ∷ marks) (suc i) at = ap suc (rank-suc_marked marks i at)
rank-suc_marked (false ∷ marks) (suc i) at = rank-suc_marked marks i at

pub rank-suc_other : (marks : List Bool) (i : ℕ) → slice_get marks i ≡ Some false → rank marks (suc i) ≡ rank marks i
rank-suc_other [] i at = cc
rank-suc_other (true ∷ marks) zero at = cc
rank-suc_other (false ∷ marks) zero at = rank-none marks
rank-suc_other (true ∷ marks) (suc i) at = ap suc (rank-suc_other marks i at)
rank-suc_other (false ∷ marks) (suc i) at = rank-suc_other marks i at

module _ {X : Type 0} where
  pub selected-none : (marks : List Bool) → selected {X = X} marks [] ≡ []
  selected-none [] = refl
  selected-none (mark ∷ marks) = refl

  -- a marked element stands behind those that are marked before it
  pub selected_at : (marks : List Bool) (xs : List X) (i : ℕ) (x : X) → slice_get marks i ≡ Some true → slice_get xs i ≡ Some x → slice_get (selected marks xs) (rank marks i) ≡ Some x
  selected_at [] xs i x at there = cc
  selected_at (mark ∷ marks) [] i x at there = cc
  selected_at (true ∷ marks) (y ∷ xs) zero x at there = there
  selected_at (false ∷ marks) (y ∷ xs) zero x at there = cc
  selected_at (true ∷ marks) (y ∷ xs) (suc i) x at there = selected_at marks xs i x at there
  selected_at (false ∷ marks) (y ∷ xs) (suc i) x at there = selected_at marks xs i x at there

  -- which element was selected to a place
  pub record IsChosen (marks : List Bool) (xs : List X) (j : ℕ) (x : X) : Type 0 where
    pub from : ℕ
    pub at : slice_get marks from ≡ Some true
    pub there : slice_get xs from ≡ Some x
    pub place : j ≡ rank marks from

  pub chosen : (marks : List Bool) (xs : List X) (j : ℕ) (x : X) → slice_get (selected marks xs) j ≡ Some x → IsChosen marks xs j x
  chosen [] xs j x there = cc
  chosen (mark ∷ marks) [] j x there = cc
  chosen (true ∷ marks) (y ∷ xs) zero x there = record { from = zero; at = refl; there = there; place = refl }
  chosen (true ∷ marks) (y ∷ xs) (suc j) x there =
      let c = chosen marks xs j x there in
      record { from = suc c.from; at = c.at; there = c.there; place = ap suc c.place }
  chosen (false ∷ marks) (y ∷ xs) j x there =
      let c = chosen marks xs j x there in
      record { from = suc c.from; at = c.at; there = c.there; place = c.place }

  pub length-selected : (marks : List Bool) (xs : List X) → length (selected marks xs) ≡ rank marks (length xs)
  length-selected [] xs = refl
  length-selected (mark ∷ marks) [] = refl
  length-selected (true ∷ marks) (x ∷ xs) = ap suc (length-selected marks xs)
  length-selected (false ∷ marks) (x ∷ xs) = length-selected marks xs

  take-none : (i : ℕ) → ◌≡◌ {A = List X} (take i []) []
  take-none zero = refl
  take-none (suc i) = refl

  -- a front of the marked elements
  pub take-selected : (marks : List Bool) (xs : List X) (i : ℕ) → take (rank marks i) (selected marks xs) ≡ selected marks (take i xs)
  take-selected [] xs i = refl
  take-selected (mark ∷ marks) [] zero = refl
  take-selected (mark ∷ marks) (x ∷ xs) zero = refl
  take-selected (true ∷ marks) [] (suc i) = refl
  take-selected (false ∷ marks) [] (suc i) = take-none (rank marks i)
  take-selected (true ∷ marks) (x ∷ xs) (suc i) = ap (λ (ys : List X). x ∷ ys) (take-selected marks xs i)
  take-selected (false ∷ marks) (x ∷ xs) (suc i) = take-selected marks xs i

  -- one element more
  pub selected-push_marked : (marks : List Bool) (xs : List X) (x : X) → slice_get marks (length xs) ≡ Some true → selected marks (xs ++ x ∷ []) ≡ selected marks xs ++ x ∷ []
  selected-push_marked [] xs x at = cc
  selected-push_marked (true ∷ marks) [] x at = ap (λ (ys : List X). x ∷ ys) (selected-none marks)
  selected-push_marked (false ∷ marks) [] x at = cc
  selected-push_marked (true ∷ marks) (y ∷ xs) x at = ap (λ (ys : List X). y ∷ ys) (selected-push_marked marks xs x at)
  selected-push_marked (false ∷ marks) (y ∷ xs) x at = selected-push_marked marks xs x at

  pub selected-push_other : (marks : List Bool) (xs : List X) (x : X) → slice_get marks (length xs) ≡ Some false → selected marks (xs ++ x ∷ []) ≡ selected marks xs
  selected-push_other [] xs x at = refl
  selected-push_other (true ∷ marks) [] x at = cc
  selected-push_other (false ∷ marks) [] x at = selected-none marks
  selected-push_other (true ∷ marks) (y ∷ xs) x at = ap (λ (ys : List X). y ∷ ys) (selected-push_other marks xs x at)
  selected-push_other (false ∷ marks) (y ∷ xs) x at = selected-push_other marks xs x at
