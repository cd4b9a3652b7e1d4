-- Where an input is cut: at its first line that is a mark.
use Rattle.std.specs.Prelude.{ℕ, ◌==◌, ◌++◌, cond, List, [], ◌∷◌}
use Rattle.std.specs.List.{join_with_byte, slice_split}
use Rattle.std.specs.Str.{bytes_eq}

-- the parts of a text between its line feeds
abbrev pub lines_of : List ℕ → List (List ℕ)
lines_of text = slice_split (λ b. b == 10) text

-- the text of the lines before the first that is the mark, each with its line feed; of all lines where none is
abbrev pub before_mark : List ℕ → List (List ℕ) → List ℕ
before_mark mark [] = []
before_mark mark (line ∷ []) = cond (bytes_eq line mark) [] line
before_mark mark (line ∷ next ∷ lines) = cond (bytes_eq line mark) [] (line ++ 10 ∷ before_mark mark (next ∷ lines))

-- the text of the lines behind it; nothing where none is the mark
abbrev pub behind_mark : List ℕ → List (List ℕ) → List ℕ
behind_mark mark [] = []
behind_mark mark (line ∷ lines) = cond (bytes_eq line mark) (join_with_byte 10 lines) (behind_mark mark lines)
