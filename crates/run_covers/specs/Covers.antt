-- Which methods a run enters.
use Rattle.std.specs.Prelude.{ℕ, List}
use Rattle.lists.specs.Lists.{Has}
use Rattle.jim_ast.specs.declared.syntax.Program.{Program}
use Rattle.link_rules.specs.Conditions.{DeclaresNine, IsRead}
use Rattle.link_rules.specs.Linked.{LinkedProgram, Links}
use Rattle.link_rules.specs.WellLinked.{HasTarget}
use Rattle.step_rules.specs.Effects.{Effect, calls}
use Rattle.step_rules.specs.Offers.{Offers}
use Rattle.step_rules.specs.Runs.{Run}
use Rattle.step_rules.specs.States.{Frame, Point, state_of}

-- in each run, of any length, a call that makes a frame makes it for a method that is among the call's targets: the targets cover what may be called
abbrev pub IsCovered : LinkedProgram → Type 0
IsCovered p = (count : ℕ) (at : Point) (offered : List Effect) (frame : Frame) → Run p count (state_of at) → Offers p at offered
    → Has offered (calls frame) → HasTarget p at.top.method at.top.index frame.method

-- so it is in the linked program of an input and a prelude as they are read, of which the prelude declares the nine classes
abbrev pub LinksAreCovered : Type 0
LinksAreCovered = (input prelude : Program) (entry : List ℕ) (p : LinkedProgram) → IsRead input → IsRead prelude → DeclaresNine prelude
    → Links input prelude entry p → IsCovered p
