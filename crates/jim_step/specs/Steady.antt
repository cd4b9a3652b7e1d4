-- What a machine keeps.
use Rattle.std.specs.Prelude.{◌<◌, ◌^◌, length}
use Rattle.jim_step.specs.declared.classes.Classes.{Classes}
use Rattle.jim_step.specs.declared.kept.Kept.{Kept}
use Rattle.jim_step.specs.Keeping.{state_in}
use Rattle.jim_step.specs.Named.{AreNamed}
use Rattle.jim_step.specs.Sizes.{IsSmall}
use Rattle.link_rules.specs.Linked.{LinkedProgram}
use Rattle.link_rules.specs.WellLinked.{IsInForm}
use Rattle.step_rules.specs.Shapes.{HasShape}

-- a state of a run of the program is kept, and what is numbered has numbers
pub record IsSteady (p : LinkedProgram) (classes : Classes) (kept : Kept) : Type 0 where
  pub form : IsInForm p
  pub small : IsSmall p
  pub named : AreNamed p classes
  pub shape : HasShape p (state_in kept)
  pub depth : length kept.frames.items < 2 ^ 32
