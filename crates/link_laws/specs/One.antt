-- What linking gives is determined.
use Rattle.std.specs.Prelude.{◌≡◌, ℕ, List}
use Rattle.jim_ast.specs.declared.syntax.Program.{Program}
use Rattle.link_rules.specs.Linked.{IsRefused, LinkedProgram, Links}
use Rattle.link_rules.specs.declared.refusal.LinkKind.{LinkKind}

-- an input, a prelude and the name of a class have at most one linked program
abbrev pub HasOneLink : Type 0
HasOneLink = (input prelude : Program) (entry : List ℕ) (p q : LinkedProgram) → Links input prelude entry p → Links input prelude entry q → p ≡ q

-- and at most one refusal that is told
abbrev pub HasOneRefusal : Type 0
HasOneRefusal = (input prelude : Program) (entry : List ℕ) (j k : LinkKind) (x y : List ℕ) (m n : ℕ) → IsRefused input prelude entry j x m
    → IsRefused input prelude entry k y n → (j ≡ k) × (x ≡ y) × (m ≡ n)
