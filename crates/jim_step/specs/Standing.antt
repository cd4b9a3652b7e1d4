-- Where a run stands.
use Rattle.link_rules.specs.Linked.{LinkedProgram}
use Rattle.step_rules.specs.States.{State}

-- a program, and a state of one of its runs
pub record Standing : Type 0 where
  pub program : LinkedProgram
  pub state : State
