-- Numbered lists.
use Rattle.std.specs.Prelude.{ℕ, List, [], slice_index_or}

-- the list with this number
abbrev pub group : {X : Type 0} → List (List X) → ℕ → List X
group lists at = slice_index_or lists at []
