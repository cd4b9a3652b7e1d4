-- The code that is left, by method.
use Rattle.std.specs.Prelude.{◌≡◌, ℕ, ◌+◌, ◌⊎◌, List, [], Some, length, slice_get}
use Rattle.link_indexes.specs.declared.method.MethodCode.{MethodCode}
use Rattle.link_rules.specs.Linked.{LinkedMethod, LinkedProgram}
use Rattle.narrow_rules.specs.declared.kept.Kept.{Kept}
use Rattle.narrow_rules.specs.Narrowed.{IsNarrowedBody, IsReachedBy}

-- of a method that is reached the statements with the targets that stay, and its handlers; of another one nothing
abbrev pub IsBodyBy : LinkedProgram → List Kept → ℕ → ℕ → LinkedMethod → MethodCode → Type 0
IsBodyBy p kept root number m b =
    (IsReachedBy p kept root number × IsNarrowedBody kept number m.code b.code × (b.catches ≡ m.catches))
    ⊎ ((IsReachedBy p kept root number → ⊥) × (b.code ≡ []) × (b.catches ≡ []))

-- what is left of the method with this number
abbrev pub IsBodyOf : LinkedProgram → List Kept → ℕ → MethodCode → Type 0
IsBodyOf p kept number b = (root : ℕ) (m : LinkedMethod) → root + 1 ≡ length p.methods → slice_get p.methods number ≡ Some m
    → IsBodyBy p kept root number m b

-- what is left of so many methods, from the first on
pub record AreBodies (p : LinkedProgram) (kept : List Kept) (count : ℕ) (bodies : List MethodCode) : Type 0 where
  pub as_many : length bodies ≡ count
  pub each : (number : ℕ) (b : MethodCode) → slice_get bodies number ≡ Some b → IsBodyOf p kept number b
