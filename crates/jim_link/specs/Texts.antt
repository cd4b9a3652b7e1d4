-- Texts of a method.
use Rattle.std.specs.Prelude.{ℕ, zero, suc, List, [], ◌∷◌}
use Rattle.link_classes.specs.Classes.{texts_at}
use Rattle.link_classes.specs.declared.seen.MethodIn.{MethodIn}

-- the names of the method's program
abbrev pub own_names : MethodIn → List (List ℕ)
own_names m = texts_at m.all.now m.ids.now

-- what stands before the type at a place: nothing, or a comma
abbrev pub separator : ℕ → List ℕ
separator zero = []
separator (suc at) = 44 ∷ []
