-- Callers stand at calls.
use Rattle.jim_step.specs.Leaving.{CanTake, TakesIn}
use Rattle.link_rules.specs.declared.code.Code.{Code}
use Rattle.link_rules.specs.declared.code.Code.TheVariants.{Call}
use Rattle.link_rules.specs.Linked.{LinkedProgram}
use Rattle.link_sites.specs.Places.{HasCode}
use Rattle.step_rules.specs.Shapes.{IsCall}
use Rattle.step_rules.specs.States.{Frame}

call_of : (f : Frame) (code : Code) → TakesIn f code → IsCall code
call_of f (Call to mode class key receiver args targets) takes = tt
call_of f _ takes = absurd takes

pub stands_at_call : (p : LinkedProgram) (f : Frame) → CanTake p f → HasCode p f.method f.index IsCall
stands_at_call p f takes = record { code = takes.0.code; at = takes.0.at; is_so = call_of f takes.0.code takes.0.is_so }
