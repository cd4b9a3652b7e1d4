-- The names of a program by their numbers among all names.
use Rattle.std.specs.Prelude.{◌≡◌, ℕ, List, [], ◌∷◌, Some, codes, slice_get}
use Rattle.jim_ast.specs.declared.names.NameId.{NameId}
use Rattle.lists.specs.Lists.{Each}

-- the name with this number has this text
abbrev pub IsNumber : List (List ℕ) → List ℕ → NameId → Type 0
IsNumber texts text id = slice_get texts id.0 ≡ Some text

-- a number for each name of a program
abbrev pub AreNumbers : List (List ℕ) → List (List ℕ) → List NameId → Type 0
AreNumbers texts names ids = Each (IsNumber texts) names ids

-- what stands at a place stays there
abbrev pub Keeps : {X : Type 0} → List X → List X → Type 0
Keeps {X} old new = (i : ℕ) (x : X) → slice_get old i ≡ Some x → slice_get new i ≡ Some x

-- the names that the root has whatever the classes are, the last that of the class to begin with
abbrev pub fixed_names : List ℕ → List (List ℕ)
fixed_names entry = codes "text" ∷ codes "args" ∷ codes "java.lang.String" ∷ codes "<clinit>" ∷ codes "main" ∷ entry ∷ []
