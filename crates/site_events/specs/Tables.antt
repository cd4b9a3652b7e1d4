-- Relations by statement.
use Rattle.std.specs.Prelude.{◌≡◌, ◌<◌, ◌⊎◌, ◌↔◌, ℕ, List, Some, slice_get}
use Rattle.lists.specs.Lists.{IsLeast}
use Rattle.weight_laws.specs.declared.rel.Rel.{Rel}
use Rattle.weight_laws.specs.Rel.{Relates, rel_domain}
use Rattle.site_events.specs.declared.statement.Statement.{Statement}

-- statements, and the relation of each
pub record Tabled : Type 0 where
  pub statements : List Statement
  pub relations : List Rel

-- the relation of the statement
abbrev pub IsTold : Tabled → Statement → Rel → Type 0
IsTold t s w = (i : ℕ) × IsLeast (λ n. slice_get t.statements n ≡ Some s) i × (slice_get t.relations i ≡ Some w)

-- the statement has one
abbrev pub HasOne : Tabled → Statement → Type 0
HasOne t s = (w : Rel) × IsTold t s w

abbrev pub AreMeant : Tabled → Type 0
AreMeant t = (s : Statement) (w : Rel) → IsTold t s w → rel_domain.IsMeant w

-- the relations of some statements have risen by one: they lead also where it does
pub record AreRaised (old : Tabled) (Which : Statement → Type 0) (v : Rel) (new : Tabled) : Type 0 where
  pub meant : AreMeant old → AreMeant new
  pub one : (s : Statement) → HasOne new s ↔ (HasOne old s ⊎ Which s)
  pub each : (s : Statement) (w : Rel) → IsTold new s w → (i j : ℕ) → i < 16
      → Relates w i j ↔ (((u : Rel) × IsTold old s u × Relates u i j) ⊎ (Which s × Relates v i j))
