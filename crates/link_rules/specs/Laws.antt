-- What holds of linking, whatever the program.
use Rattle.std.specs.Prelude.{◌≡◌, ℕ, List}
use Rattle.jim_ast.specs.declared.syntax.Mode.{Mode}
use Rattle.jim_ast.specs.declared.syntax.Program.{Program}
use Rattle.link_rules.specs.declared.refusal.LinkKind.{LinkKind}
use Rattle.link_rules.specs.Linked.{IsRefused, LinkedProgram, Links}
use Rattle.link_rules.specs.Refusals.{IsFirst, Refusal}
use Rattle.link_rules.specs.Targets.{AreTargetRows}
use Rattle.link_rules.specs.World.{IsWorld, World}

-- an input, a prelude and the name of a class make one thing that is linked
abbrev pub HasOneWorld : Type 0
HasOneWorld = (input prelude : Program) (entry : List ℕ) (v w : World)
    → IsWorld input prelude entry v → IsWorld input prelude entry w → v ≡ w

-- at most one refusal is first
abbrev pub HasOneFirst : Type 0
HasOneFirst = (w : World) (one two : Refusal) → IsFirst w one → IsFirst w two → one ≡ two

-- the methods that a call may run stand in one order
abbrev pub HasOneOrder : Type 0
HasOneOrder = (w : World) (mode : Mode) (class key : ℕ) (one two : List ℕ) → AreTargetRows w mode class key one → AreTargetRows w mode class key two
    → one ≡ two

-- what is linked isn't refused
abbrev pub IsNotBoth : Type 0
IsNotBoth = (input prelude : Program) (entry : List ℕ) (p : LinkedProgram) (kind : LinkKind) (place : List ℕ) (index : ℕ)
    → Links input prelude entry p → IsRefused input prelude entry kind place index → ⊥
