-- With which marks words begin.
use Rattle.std.specs.Prelude.{◌≡◌, ℕ, List, ◌∷◌, Option, Some, None}
use Rattle.spds_solve.specs.declared.heads.Head.{Head}
use Rattle.spds_solve.specs.declared.heads.Head.TheVariants.{Any, Mark}

-- the word begins so
abbrev pub Begins : Head → List ℕ → Type 0
Begins Any word = Unit {0}
Begins (Mark mark) word = (rest : List ℕ) × (word ≡ mark ∷ rest)

-- one word may begin with both: not with two marks
abbrev pub Fit : Head → Head → Type 0
Fit Any other = Unit {0}
Fit (Mark mark) Any = Unit {0}
Fit (Mark mark) (Mark other) = mark ≡ other

-- words begin so of which this is the first mark, where it is told
abbrev pub head_of : Option ℕ → Head
head_of None = Any
head_of (Some mark) = Mark mark
