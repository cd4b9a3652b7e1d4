-- What linking gives has the premises of the simulation.
use Rattle.std.specs.Prelude.{ℕ, List}
use Rattle.jim_ast.specs.declared.syntax.Program.{Program}
use Rattle.link_rules.specs.Conditions.{DeclaresNine, IsRead}
use Rattle.link_rules.specs.Linked.{LinkedProgram, Links}
use Rattle.run_sound.specs.Agrees.{RunsAgree}
use Rattle.run_sound.specs.Simulated.{IsAnswering, IsSharing, IsSimulated, IsSimulatedInConstants, IsSimulatedInStatics}

-- a program of which each run is simulated, and agrees with it
pub record IsSound (p : LinkedProgram) : Type 0 where
  pub agrees : RunsAgree p
  pub simulated : IsSimulated p
  pub statics : IsSimulatedInStatics p
  pub constants : IsSimulatedInConstants p
  pub answered : IsAnswering p
  pub shared : IsSharing p

-- the linked program of an input and a prelude as they are read, of which the prelude declares the nine classes, is one
abbrev pub LinksAreSound : Type 0
LinksAreSound = (input prelude : Program) (entry : List ℕ) (p : LinkedProgram) → IsRead input → IsRead prelude → DeclaresNine prelude
    → Links input prelude entry p → IsSound p
