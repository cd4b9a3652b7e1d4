-- Methods that are found, one after another, by the targets that stay.
use Rattle.std.specs.Prelude.{◌≡◌, ℕ, ◌+◌, ◌<◌, List, Some, length, slice_get}
use Rattle.lists.specs.Lists.{Has}
use Rattle.jim_ast.specs.declared.syntax.Mode.{Mode}
use Rattle.link_rules.specs.declared.code.Code.{Code}
use Rattle.link_rules.specs.declared.code.Code.TheVariants.{Call}
use Rattle.link_rules.specs.Linked.{LinkedProgram}
use Rattle.narrow_rules.specs.declared.kept.Kept.{Kept}
use Rattle.narrow_rules.specs.Narrowed.{IsKept, IsReachedBy, StaysIn}

-- among so many targets of a call, from the first on, this one stays
pub record StaysAmong (kept : List Kept) (number index : ℕ) (mode : Mode) (targets : List ℕ) (count target : ℕ) : Type 0 where
  pub at : ℕ
  pub within : at < count
  pub there : slice_get targets at ≡ Some target
  pub stays : StaysIn mode (IsKept kept number index target)

-- the statement has a target that stays
abbrev pub StaysFrom : List Kept → ℕ → ℕ → Code → ℕ → Type 0
StaysFrom kept number index (Call to mode class key receiver args targets) target = StaysAmong kept number index mode targets (length targets) target
StaysFrom kept number index _ target = ⊥

-- among so many statements of a method, from the first on, one has a target that stays
pub record StaysBefore (kept : List Kept) (number : ℕ) (codes : List Code) (count target : ℕ) : Type 0 where
  pub index : ℕ
  pub within : index < count
  pub code : Code
  pub here : slice_get codes index ≡ Some code
  pub stays : StaysFrom kept number index code target

-- the methods that the root reaches
abbrev pub AreReached : LinkedProgram → List Kept → List ℕ → Type 0
AreReached p kept found = (root : ℕ) → root + 1 ≡ length p.methods → (number : ℕ) → (Has found number → IsReachedBy p kept root number)
    × (IsReachedBy p kept root number → Has found number)
