-- What one statement says of the nodes around it.
use Rattle.std.specs.Prelude.{◌≡◌, ℕ, ◌<◌, ◌≤◌, Some, slice_get}
use Rattle.lists.specs.Lists.{Has}
use Rattle.link_rules.specs.declared.code.Code.{Code}
use Rattle.link_rules.specs.declared.code.Code.TheVariants as code
use Rattle.link_rules.specs.Flow.{Handles}
use Rattle.link_rules.specs.Linked.{LinkedMethod, LinkedProgram}
use Rattle.spds_rules.specs.declared.edge.EdgeKind.{EdgeKind}
use Rattle.spds_rules.specs.declared.edge.EdgeKind.TheVariants.{Flow, Load}
use Rattle.spds_rules.specs.declared.node.Var.{Var}
use Rattle.spds_rules.specs.declared.node.Var.TheVariants.{Local, Raised}
use Rattle.spds_rules.specs.Edges.{Assigns, LoadsInto, Passes}
use Rattle.spds_rules.specs.Nodes.{arg_var}

-- the statement brings v into the local x by an edge of this kind, within the frame
abbrev pub Brings : Code → ℕ → Var → EdgeKind → Type 0
Brings c x v Flow = Assigns c v (Local x)
Brings c x v (Load field) = LoadsInto c v field (Local x)
Brings c x v _ = ⊥

-- the call passes v as w
abbrev pub PassesAs : Code → Var → Var → Type 0
PassesAs (code.Call to mode class key receiver args targets) v w = Passes receiver args v w
PassesAs _ v w = ⊥

-- the call may run the method, and takes its result into the local x
abbrev pub TakesFrom : Code → ℕ → ℕ → Type 0
TakesFrom (code.Call to mode class key receiver args targets) x target = (to ≡ Some x) × Has targets target
TakesFrom _ x target = ⊥

-- v is thrown as an operand
abbrev pub Throws : Code → Var → Type 0
Throws (code.Throw a) v = arg_var a ≡ Some v
Throws _ v = ⊥

-- an implicit exception of one of the kinds from one up to, not including, another
abbrev pub IsKindIn : ℕ → ℕ → Var → Type 0
IsKindIn from to (Raised kind) = (from ≤ kind) × (kind < to)
IsKindIn from to _ = ⊥

-- a handler of the method that covers the statement at t begins at s
pub record HandlesAt (p : LinkedProgram) (number t s : ℕ) : Type 0 where
  pub method : LinkedMethod
  pub there : slice_get p.methods number ≡ Some method
  pub handles : Handles method.catches t s
