use Rattle.step_rules.specs.declared.parts.Slot.TheVariants as slot
use Rattle.jim_step.proofs.plans.call_row.Goals as goal

pub call-requires-clause-receiver : goal.call-requires-clause-receiver
call-requires-clause-receiver c = λ x. c.requires.fits.top.holds (slot.Local x)
