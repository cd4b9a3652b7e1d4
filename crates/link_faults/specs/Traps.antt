-- What refuses a body for its traps, with the body given.
use Rattle.std.specs.Prelude.{ℕ, List, Option, Some, None, length}
use Rattle.lists.specs.Lists.{Has}
use Rattle.jim_ast.specs.declared.syntax.Body.{Body}
use Rattle.jim_ast.specs.declared.syntax.Trap.{Trap}
use Rattle.link_rules.specs.declared.refusal.LinkKind.{LinkKind}
use Rattle.link_rules.specs.declared.refusal.LinkKind.TheVariants as rule
use Rattle.link_rules.specs.Bodies.{IsLabel, trap_labels}
use Rattle.link_rules.specs.World.{World}
use Rattle.link_faults.specs.Sites.{HasMissingLabel, IsUndeclared}

-- a trap names a label that isn't there
abbrev pub TrapNamesNoLabel : Body → Type 0
TrapNamesNoLabel body = (trap : Trap) × Has body.traps trap × HasMissingLabel body.labels (trap_labels trap)

-- the handler of a trap is the end of the body
abbrev pub TrapHandlesAtEnd : Body → Type 0
TrapHandlesAtEnd body = (trap : Trap) × Has body.traps trap × IsLabel body.labels trap.with (length body.stmts)

-- a trap names a class that isn't declared
abbrev pub TrapIsUndeclared : World → List (List ℕ) → Body → Type 0
TrapIsUndeclared w names body = (trap : Trap) × Has body.traps trap × IsUndeclared w names trap.class

-- the least rule that refuses a trap, if one does
abbrev pub IsFirstForTraps : World → List (List ℕ) → Body → Option LinkKind → Type 0
IsFirstForTraps w names body (Some rule.UnknownLabel) = TrapNamesNoLabel body
IsFirstForTraps w names body (Some rule.FallsOff) = (TrapNamesNoLabel body → ⊥) × TrapHandlesAtEnd body
IsFirstForTraps w names body (Some rule.UnknownClass) = (TrapNamesNoLabel body → ⊥) × (TrapHandlesAtEnd body → ⊥) × TrapIsUndeclared w names body
IsFirstForTraps w names body (Some _) = ⊥
IsFirstForTraps w names body None = (TrapNamesNoLabel body → ⊥) × (TrapHandlesAtEnd body → ⊥) × (TrapIsUndeclared w names body → ⊥)
