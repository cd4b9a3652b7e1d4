-- What is selected from the classes, by their places.
use Rattle.std.specs.Prelude.{◌≡◌, ℕ, ◌<◌, ◌≤◌, Option, Some, None, List}
use Rattle.class_tree.specs.declared.tree.Defaults.{Defaults}
use Rattle.class_tree.specs.declared.tree.Defaults.TheVariants.{Nothing as NoDefault, One, Several as SeveralDefaults}
use Rattle.class_tree.specs.declared.turns.Turn.{Turn}
use Rattle.class_tree.specs.Turns.{turned}
use Rattle.default_turns.specs.declared.turns.DefaultTurn.{DefaultTurn}
use Rattle.default_turns.specs.Turns.{defaults_at}
use Rattle.object_ranges.specs.declared.selection.Selection.{Selection}
use Rattle.object_ranges.specs.declared.selection.Selection.TheVariants.{Method, Nothing, Several}

-- the row that the look-up along the parents gives, or else the one default method
abbrev pub selection_of : Option ℕ → Defaults → Selection
selection_of (Some row) defaults = Method row
selection_of None NoDefault = Nothing
selection_of None (One row) = Method row
selection_of None SeveralDefaults = Several

-- what is selected at a place, by the turns of a key
abbrev pub selected_at : List Turn → List DefaultTurn → ℕ → Selection
selected_at turns defaults place = selection_of (turned None turns place) (defaults_at defaults place)

-- from the place on the same is told as there, up to another place
pub record IsSteady {A : Type 0} (told : ℕ → A) (place end until : ℕ) : Type 0 where
  pub on : place < until
  pub within : until ≤ end
  pub same : (q : ℕ) → place ≤ q → q < until → told q ≡ told place
