-- What classes have from those above them.
use Rattle.std.specs.Prelude.{ℕ, List}
use Rattle.class_tree.specs.declared.inherited.Inherited.{Inherited}
use Rattle.class_rules.specs.declared.rows.ClassRow.{ClassRow}
use Rattle.class_rules.specs.declared.rows.MethodRow.{MethodRow}
use Rattle.class_rules.specs.Lookups.{own_body}
use Rattle.class_tree.specs.Runs.{AreRuns}
use Rattle.class_tree.specs.Turns.{TellPaths}

-- look-ups of methods along the parents by the places of the classes, and the runs of these places
pub record AreInherited (classes : List ClassRow) (rows : List MethodRow) (places : List ℕ) (inherited : Inherited) : Type 0 where
  pub methods : TellPaths classes (own_body rows) places inherited.methods
  pub runs : AreRuns classes places inherited.runs
