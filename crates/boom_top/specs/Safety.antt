-- When a reply says that a program is safe.
use Rattle.std.specs.Prelude.{◌≡◌, ℕ, ◌++◌, List, [], ◌∷◌, Some, codes}
use Rattle.std.specs.declared.option.Option.{Option}
use Rattle.std.specs.Fmt.{decimal}
use Rattle.report_text.specs.Lines.{text_of}

-- The sink tells what was written, and this ends with the line `verdict safe` and the line `demanded` with a number. What stands before them doesn't
-- matter: the names of states and of events may hold line feeds, but no name stands in these two lines.
pub record SaysSafe (old new : Option (List ℕ)) : Type 0 where
  pub earlier : List ℕ
  pub front : List ℕ
  pub demanded : ℕ
  pub told : old ≡ Some earlier
  pub wrote : new ≡ Some (earlier ++ front ++ text_of (codes "verdict safe" ∷ (codes "demanded " ++ decimal demanded) ∷ []))
