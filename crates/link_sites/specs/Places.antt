-- Places of a linked program.
use Rattle.std.specs.Prelude.{◌≡◌, ℕ, ◌<◌, ◌⊎◌, Bool, Some, true, false, slice_get}
use Rattle.link_rules.specs.declared.code.Code.{Code}
use Rattle.link_rules.specs.Linked.{LinkedMethod, LinkedProgram}
use Rattle.link_rules.specs.Flow.{IsRaised}
use Rattle.link_sites.specs.declared.place.Place.{Place}

-- the statement at an index of a method
pub record CodeAt (p : LinkedProgram) (number index : ℕ) (code : Code) : Type 0 where
  pub method : LinkedMethod
  pub there : slice_get p.methods number ≡ Some method
  pub here : slice_get method.code index ≡ Some code

-- a statement with the fact stands at an index of a method
pub record HasCode (p : LinkedProgram) (number index : ℕ) (Fact : Code → Type 0) : Type 0 where
  pub code : Code
  pub at : CodeAt p number index code
  pub is_so : Fact code

-- the place just before a statement
abbrev pub before : ℕ → ℕ → Place
before method index = record { method = method; index = index; raised = false }

-- the place at a statement with an exception in flight
abbrev pub in_flight : ℕ → ℕ → Place
in_flight method index = record { method = method; index = index; raised = true }

-- a statement stands at the place; where an exception is in flight, it is one that an exception may come out of
abbrev pub StandsAt : LinkedProgram → ℕ → ℕ → Bool → Type 0
StandsAt p number index false = HasCode p number index (λ code. Unit {0})
StandsAt p number index true = HasCode p number index IsRaised

-- a place of the program
abbrev pub IsPlace : LinkedProgram → Place → Type 0
IsPlace p place = StandsAt p place.method place.index place.raised

-- the order of statements: by method, and in a method by index
abbrev pub ComesBefore : Place → Place → Type 0
ComesBefore a b = (a.method < b.method) ⊎ ((a.method ≡ b.method) × (a.index < b.index))

-- the same statement
abbrev pub IsSameStatement : Place → Place → Type 0
IsSameStatement a b = (a.method ≡ b.method) × (a.index ≡ b.index)
