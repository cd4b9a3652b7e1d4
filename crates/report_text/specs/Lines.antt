-- The lines of a reply, and their text.
use Rattle.std.specs.Prelude.{◌≡◌, ℕ, ◌++◌, List, [], ◌∷◌}

-- the text of lines: each ends with a line feed
abbrev pub text_of : List (List ℕ) → List ℕ
text_of [] = []
text_of (line ∷ lines) = line ++ 10 ∷ text_of lines

-- the text grew by lines with the fact
pub record AddsLines (P : List (List ℕ) → Type 0) (old new : List ℕ) : Type 0 where
  pub lines : List (List ℕ)
  pub are_so : P lines
  pub grown : new ≡ old ++ text_of lines

-- the text grew by one line, with the fact
pub record AddsLine (P : List ℕ → Type 0) (old new : List ℕ) : Type 0 where
  pub line : List ℕ
  pub is_so : P line
  pub grown : new ≡ old ++ text_of (line ∷ [])
