-- Which methods a run finds.
use Rattle.std.specs.Prelude.{◌≡◌, ℕ, List, Some, slice_get}
use Rattle.class_rules.specs.Lookups.{Resolve}
use Rattle.class_rules.specs.Rows.{Sub}
use Rattle.jim_ast.specs.declared.syntax.Mode.{Mode}
use Rattle.jim_ast.specs.declared.syntax.Mode.TheVariants.{Special, Virtual, Interface, Static}
use Rattle.jim_ast.specs.declared.syntax.Program.{Program}
use Rattle.link_rules.specs.declared.code.Code.{Code}
use Rattle.link_rules.specs.declared.code.Code.TheVariants.{Call}
use Rattle.link_rules.specs.Conditions.{DeclaresNine, IsRead}
use Rattle.link_rules.specs.Linked.{LinkedMethod, LinkedProgram, Links}
use Rattle.link_sites.specs.Places.{CodeAt}
use Rattle.step_rules.specs.Offers.{Finds}
use Rattle.step_rules.specs.Runs.{Run}
use Rattle.step_rules.specs.States.{HeapObject, Point, state_of}

-- an object of the heap has this class
pub record HasObjectOf (heap : List HeapObject) (class : ℕ) : Type 0 where
  pub number : ℕ
  pub object : HeapObject
  pub there : slice_get heap number ≡ Some object
  pub of_class : object.class ≡ class

-- the class from which a call may look its method up: in static and special mode the one that it names, in the others that of an object, which is
-- below it. It may be any object of the heap, the receiver among them
abbrev pub LooksFrom : LinkedProgram → List HeapObject → Mode → ℕ → ℕ → Type 0
LooksFrom p heap Static class from = from ≡ class
LooksFrom p heap Special class from = from ≡ class
LooksFrom p heap Virtual class from = Sub p.rows from class × HasObjectOf heap from
LooksFrom p heap Interface class from = Sub p.rows from class × HasObjectOf heap from

-- a method that look-up finds from the class is one of the linked program, and has statements
abbrev pub HasFound : LinkedProgram → ℕ → ℕ → Type 0
HasFound p from key = (row : ℕ) → Resolve p.rows from key (Some row) → (number : ℕ) × (m : LinkedMethod) × Finds p from key number m

-- so it is wherever the call may look its method up
abbrev pub HasFoundFor : LinkedProgram → List HeapObject → Code → Type 0
HasFoundFor p heap (Call to mode class key receiver args targets) = (from : ℕ) → LooksFrom p heap mode class from → HasFound p from key
HasFoundFor p heap _ = Unit {0}

-- in each run, of any length, at each call: what method look-up finds is there, so that a call isn't well typed for want of a method only where
-- look-up from the class finds none
abbrev pub HasAllFound : LinkedProgram → Type 0
HasAllFound p = (count : ℕ) (at : Point) (code : Code) → Run p count (state_of at) → CodeAt p at.top.method at.top.index code → HasFoundFor p at.heap code

-- so it is in the linked program of an input and a prelude as they are read, of which the prelude declares the nine classes
abbrev pub LinksHaveAllFound : Type 0
LinksHaveAllFound = (input prelude : Program) (entry : List ℕ) (p : LinkedProgram) → IsRead input → IsRead prelude → DeclaresNine prelude
    → Links input prelude entry p → HasAllFound p
