-- Default methods that are worked out beforehand.
use Rattle.std.specs.Prelude.{◌≡◌, ℕ, List, length}
use Rattle.std.specs.Global.{Vec}
use Rattle.class_rules.specs.Rows.{Rows}
use Rattle.number_sets.specs.Tables.{AreKept, Entries}
use Rattle.default_turns.specs.declared.selections.Selections.{Selections}
use Rattle.default_turns.specs.declared.turns.DefaultTurn.{DefaultTurn}
use Rattle.default_turns.specs.Turns.{TellDefaults}

-- the turns that are kept for a key tell its default methods
abbrev pub AreKeptTurns : Rows → List ℕ → Entries (Vec DefaultTurn) → Type 0
AreKeptTurns rows places kept = AreKept (λ key turns. TellDefaults rows places key turns.items) kept

-- a place for each class, and the turns of some keys by these places
pub record AreSelections (rows : Rows) (s : Selections) : Type 0 where
  pub len : length s.places.items ≡ length rows.classes
  pub kept : AreKeptTurns rows s.places.items s.turns
