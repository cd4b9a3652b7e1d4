-- The default methods of a key that classes reach, by the places of the classes: from each turn on those that it has, up to the next turn.
use Rattle.std.specs.Prelude.{◌≡◌, ℕ, ◌<◌, ◌≤◌, List, [], ◌∷◌, All, cond, leb, length, slice_index}
use Rattle.std.specs.List.Sorted.{IsNonDecreasingBy}
use Rattle.class_rules.specs.Lookups.{IsDefault}
use Rattle.class_rules.specs.Rows.{Rows}
use Rattle.class_tree.specs.declared.tree.Defaults.{Defaults}
use Rattle.class_tree.specs.declared.tree.Defaults.TheVariants.{Nothing}
use Rattle.class_tree.specs.Defaults.{AreDefaults}
use Rattle.default_turns.specs.declared.turns.DefaultTurn.{DefaultTurn}

-- those of the last turn at the place or before it, of turns in order
abbrev pub defaults_from : Defaults → List DefaultTurn → ℕ → Defaults
defaults_from before [] place = before
defaults_from before (t ∷ ts) place = cond (leb t.at place) (defaults_from t.defaults ts place) before

-- there are none before the first turn
abbrev pub defaults_at : List DefaultTurn → ℕ → Defaults
defaults_at turns place = defaults_from Nothing turns place

-- the turns stand in order, and tell the default methods that each class reaches
pub record TellDefaults (rows : Rows) (places : List ℕ) (key : ℕ) (turns : List DefaultTurn) : Type 0 where
  pub rising : IsNonDecreasingBy (λ t. t.at) turns
  pub exact : (c : ℕ) → c < length rows.classes → AreDefaults (IsDefault rows c key) (defaults_at turns (slice_index places c))

-- the turns stand in order, none after the place
pub record AreUpTo (place : ℕ) (turns : List DefaultTurn) : Type 0 where
  pub rising : IsNonDecreasingBy (λ t. t.at) turns
  pub up_to : All (λ t. t.at ≤ place) turns

-- from its place on the turn tells, and before it nothing has changed
pub record AddsTurn (turn : DefaultTurn) (old new : List DefaultTurn) : Type 0 where
  pub ordered : AreUpTo turn.at old → AreUpTo turn.at new
  pub kept : (place : ℕ) → place < turn.at → defaults_at new place ≡ defaults_at old place
  pub told : AreUpTo turn.at old → (place : ℕ) → turn.at ≤ place → defaults_at new place ≡ turn.defaults
