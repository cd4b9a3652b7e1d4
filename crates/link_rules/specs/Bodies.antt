-- Labels, and which statement may follow which, before names are numbers.
use Rattle.std.specs.Prelude.{◌≡◌, ℕ, ◌+◌, ◌<◌, ◌⊎◌, List, [], ◌∷◌, Some, slice_get}
use Rattle.lists.specs.Lists.{Has}
use Rattle.jim_ast.specs.declared.names.NameId.{NameId}
use Rattle.jim_ast.specs.declared.syntax.Body.{Body}
use Rattle.jim_ast.specs.declared.syntax.Label.{Label}
use Rattle.jim_ast.specs.declared.syntax.Stmt.{Stmt}
use Rattle.jim_ast.specs.declared.syntax.Trap.{Trap}
use Rattle.link_rules.specs.Statements.{GoesOn, labels_of}

-- the first label of this name stands before the statement with this index
pub record IsLabel (labels : List Label) (name : NameId) (index : ℕ) : Type 0 where
  pub place : ℕ
  pub there : slice_get labels place ≡ Some (record { name = name; index = index })
  pub first : (i : ℕ) (l : Label) → i < place → slice_get labels i ≡ Some l → l.name ≡ name → ⊥

-- no label has this name
abbrev pub HasNoLabel : List Label → NameId → Type 0
HasNoLabel labels name = (l : Label) → Has labels l → l.name ≡ name → ⊥

-- the labels that a trap names
abbrev pub trap_labels : Trap → List NameId
trap_labels trap = trap.from ∷ trap.to ∷ trap.with ∷ []

-- the statement at an index may be followed by the one at another: `if` by the next one and its jump, `goto` and the switches by their jumps,
-- `return` and `throw` by none, and each other statement by the next one. `Next` says it of code, where labels are indexes
abbrev pub MayFollow : Body → Stmt → ℕ → ℕ → Type 0
MayFollow body s index next = (GoesOn s × (next ≡ index + 1)) ⊎ ((label : NameId) × Has (labels_of s) label × IsLabel body.labels label next)
