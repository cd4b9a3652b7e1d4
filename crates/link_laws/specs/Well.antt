-- What linking gives is well linked.
use Rattle.std.specs.Prelude.{ℕ, List}
use Rattle.jim_ast.specs.declared.syntax.Program.{Program}
use Rattle.link_rules.specs.Conditions.{DeclaresNine, IsRead}
use Rattle.link_rules.specs.Linked.{LinkedProgram, Links}
use Rattle.link_rules.specs.WellLinked.{IsWellLinked}

-- the linked program of an input and a prelude as they are read, of which the prelude declares the nine classes, is well linked
abbrev pub LinksAreWell : Type 0
LinksAreWell = (input prelude : Program) (entry : List ℕ) (p : LinkedProgram) → IsRead input → IsRead prelude → DeclaresNine prelude
    → Links input prelude entry p → IsWellLinked p
