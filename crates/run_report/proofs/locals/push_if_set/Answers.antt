use Rattle.step_rules.specs.declared.parts.Slot.TheVariants as slot
use Rattle.run_report.proofs.Telling.{slot_fits}
use Rattle.run_report.proofs.locals.push_if_set.Goals as goal

pub push_local-requires-clause-fits : goal.push_local-requires-clause-fits
push_local-requires-clause-fits c =
    slot_fits c.args.linked.now c.args.machine.now.state.heap c.args.machine.now.state.frames c.args.frame (slot.Local c.args.local) c.in-Some.value c.requires.there c.requires.fits c.in-Some.ensures.value
