-- The methods that the first classes select.
use Rattle.std.specs.Prelude.{ℕ, ◌<◌, ◌↔◌, Bool, List, Some, None, IsTrue, AllPairs}
use Rattle.class_rules.specs.Lookups.{IsAmbiguous, Resolve}
use Rattle.class_rules.specs.Rows.{Rows}
use Rattle.lists.specs.Lists.{Has, IsApart}
use Rattle.link_rules.specs.Faults.{FindsSeveralAt}
use Rattle.link_rules.specs.Targets.{ComesBefore, Selects}
use Rattle.link_rules.specs.World.{World}
use Rattle.object_ranges.specs.declared.selection.Selection.{Selection}
use Rattle.object_ranges.specs.declared.selection.Selection.TheVariants.{Method, Nothing, Several}

-- what selection from the class gives
abbrev pub IsSelection : Rows → ℕ → ℕ → Selection → Type 0
IsSelection rows class key Nothing = Resolve rows class key None × (IsAmbiguous rows class key → ⊥)
IsSelection rows class key (Method row) = Resolve rows class key (Some row)
IsSelection rows class key Several = IsAmbiguous rows class key

-- the receiver's objects select no method
abbrev pub SelectsNone : World → ℕ → ℕ → ℕ → Type 0
SelectsNone w class key receiver = (row : ℕ) → Selects w class key receiver row → ⊥

-- what the receiver's objects select, if there can be any and they are below the class
abbrev pub IsSelected : World → ℕ → ℕ → ℕ → Selection → Type 0
IsSelected w class key receiver Nothing = SelectsNone w class key receiver × (FindsSeveralAt w class key receiver → ⊥)
IsSelected w class key receiver (Method row) = Selects w class key receiver row × (FindsSeveralAt w class key receiver → ⊥)
IsSelected w class key receiver Several = SelectsNone w class key receiver × FindsSeveralAt w class key receiver

-- the methods that objects of the first n classes select, each once, in the order of the classes that select them first; and whether one of
-- these classes has several default methods
pub record AreSelectedBy (w : World) (class key n : ℕ) (rows : List ℕ) (several : Bool) : Type 0 where
  pub each : (row : ℕ) → Has rows row ↔ ((receiver : ℕ) × (receiver < n) × Selects w class key receiver row)
  pub apart : IsApart rows
  pub ordered : AllPairs (ComesBefore w class key) rows
  pub is_several : IsTrue several ↔ ((receiver : ℕ) × (receiver < n) × FindsSeveralAt w class key receiver)
