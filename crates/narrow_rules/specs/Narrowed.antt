-- The program that is left where calls on objects keep some of their targets. This is this project's own.
use Rattle.std.specs.Prelude.{◌≡◌, ℕ, ◌+◌, ◌⊎◌, List, [], ◌∷◌, Some, length, map, slice_get, sum}
use Rattle.lists.specs.Lists.{Has}
use Rattle.jim_ast.specs.declared.syntax.Mode.{Mode}
use Rattle.jim_ast.specs.declared.syntax.Mode.TheVariants.{Special, Virtual, Interface, Static}
use Rattle.link_rules.specs.declared.code.Code.{Code}
use Rattle.link_rules.specs.declared.code.Code.TheVariants.{Call}
use Rattle.link_rules.specs.Linked.{LinkedMethod, LinkedProgram}
use Rattle.link_rules.specs.WellLinked.{HasTarget}
use Rattle.narrow_rules.specs.declared.kept.Kept.{Kept}

-- the target of the call at an index of a method is named
abbrev pub IsKept : List Kept → ℕ → ℕ → ℕ → Type 0
IsKept kept number index target = Has kept (record { place = record { method = number; index = index }; target = target })

-- what stays of the targets of a call: each in static and special mode, where no object decides, and in the others each that is named
abbrev pub StaysIn : Mode → Type 0 → Type 0
StaysIn Static Named = Unit {0}
StaysIn Special Named = Unit {0}
StaysIn Virtual Named = Named
StaysIn Interface Named = Named

-- the second list has the elements of the first that have the fact, in order
pub data AreThose {X : Type 0} (P : X → Type 0) : List X → List X → Type 0 where
  none : AreThose P [] []
  one : {x : X} {all some : List X} → P x → AreThose P all some → AreThose P (x ∷ all) (x ∷ some)
  other : {x : X} {all some : List X} → (P x → ⊥) → AreThose P all some → AreThose P (x ∷ all) some

-- the statement at an index of a method: a call has the targets that stay, all else is the same
abbrev pub IsNarrowedCode : List Kept → ℕ → ℕ → Code → Code → Type 0
IsNarrowedCode kept number index (Call to mode class key receiver args targets) new = (some : List ℕ)
    × AreThose (λ target. StaysIn mode (IsKept kept number index target)) targets some
    × (new ≡ Call to mode class key receiver args some)
IsNarrowedCode kept number index code new = new ≡ code

-- each statement of a method, at its index
pub record IsNarrowedBody (kept : List Kept) (number : ℕ) (old new : List Code) : Type 0 where
  pub as_many : length old ≡ length new
  pub each : (index : ℕ) (c d : Code) → slice_get old index ≡ Some c → slice_get new index ≡ Some d → IsNarrowedCode kept number index c d

-- the call at an index of a method has the target, which stays
pub record KeepsTarget (p : LinkedProgram) (kept : List Kept) (number index target : ℕ) : Type 0 where
  pub has : HasTarget p number index target
  pub stays : StaysIn has.mode (IsKept kept number index target)

-- the methods that the root reaches by targets that stay
pub data IsReachedBy (p : LinkedProgram) (kept : List Kept) (root : ℕ) : ℕ → Type 0 where
  root : IsReachedBy p kept root root
  called : {number index target : ℕ} → IsReachedBy p kept root number → KeepsTarget p kept number index target → IsReachedBy p kept root target

-- a method that is still reached goes on
pub record GoesOn (p : LinkedProgram) (kept : List Kept) (root number : ℕ) (old new : LinkedMethod) : Type 0 where
  pub reached : IsReachedBy p kept root number
  pub code : IsNarrowedBody kept number old.code new.code
  pub catches : new.catches ≡ old.catches

-- one that isn't loses its statements and its handlers
pub record IsLost (p : LinkedProgram) (kept : List Kept) (root number : ℕ) (new : LinkedMethod) : Type 0 where
  pub unreached : IsReachedBy p kept root number → ⊥
  pub code : new.code ≡ []
  pub catches : new.catches ≡ []

-- what becomes of a method. Its text, its locals and all else of it stay
pub record IsNarrowedMethod (p : LinkedProgram) (kept : List Kept) (root number : ℕ) (old new : LinkedMethod) : Type 0 where
  pub same : new ≡ record old { code = new.code; catches = new.catches }
  pub becomes : GoesOn p kept root number old new ⊎ IsLost p kept root number new

-- the program that is left: the methods are what they become, and all else is the same, each number included
pub record IsNarrowed (p : LinkedProgram) (kept : List Kept) (q : LinkedProgram) : Type 0 where
  pub same : q ≡ record p { methods = q.methods }
  pub as_many : length p.methods ≡ length q.methods
  pub root : ℕ
  pub last : root + 1 ≡ length p.methods
  pub each : (number : ℕ) (old new : LinkedMethod) → slice_get p.methods number ≡ Some old → slice_get q.methods number ≡ Some new
      → IsNarrowedMethod p kept root number old new

-- how many targets a statement has
abbrev pub targets_at : Code → ℕ
targets_at (Call to mode class key receiver args targets) = length targets
targets_at _ = 0

-- how many pairs of a call and a target there are
abbrev pub pairs_in : LinkedProgram → ℕ
pairs_in p = sum (map (λ m. sum (map targets_at m.code)) p.methods)

-- of the pairs of the first program so many are gone from the last one. Those that it has are of the first one
abbrev pub LacksPairs : LinkedProgram → LinkedProgram → ℕ → Type 0
LacksPairs p q count = pairs_in q + count ≡ pairs_in p
