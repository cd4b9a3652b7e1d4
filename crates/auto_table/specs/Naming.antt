-- Entries get numbers, and rows with them.
use Rattle.std.specs.Prelude.{◌≡◌, ◌-◌, List, [], ◌∷◌, ◌++◌}
use Rattle.auto_table.specs.declared.entry.Entry.{Entry}
use Rattle.auto_table.specs.Grids.{Cast}
use Rattle.lists.specs.Lists.{Has}

-- the rows with an empty one more
abbrev pub grown : {S X : Type 0} → Cast S X → Cast S X
grown g = record g { rows = g.rows ++ [] ∷ []; room = g.room - 1 }

-- the entry has a number: it had one, or it comes last, with empty rows
pub data IsNamed {S X T Y : Type 0} (entry : Entry) (old new : List Entry) (before after : Cast S X) (first last : Cast T Y) : Type 0 where
  as_before : Has old entry → new ≡ old → after ≡ before → last ≡ first → IsNamed entry old new before after first last
  with_rows : (Has old entry → ⊥) → new ≡ old ++ entry ∷ [] → after ≡ grown before → last ≡ grown first → IsNamed entry old new before after first last
