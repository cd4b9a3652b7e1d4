use Rattle.std.proofs.lemmas.Result.{on_ok_weaker}
use Rattle.step_rules.specs.declared.parts.Slot.TheVariants as slot
use Rattle.run_report.proofs.Ending.{adds_flight, adds_no_flight}
use Rattle.run_report.proofs.Telling.{slot_fits}
use Rattle.run_report.proofs.ends.push_flight.Goals as goal

pub returns-in_default : goal.returns-in_default
returns-in_default c =
    adds_no_flight c.args.linked.now c.args.machine.now.state.heap c.args.machine.now.state.frames c.args.frame c.requires.fits _ c.in_default.ensures.value

pub push_value-requires-clause-fits : goal.push_value-requires-clause-fits
push_value-requires-clause-fits c =
    slot_fits c.args.linked.now c.args.machine.now.state.heap c.args.machine.now.state.frames c.args.frame slot.Thrown c.in-Some.thrown c.requires.there c.requires.fits c.in-Some.ensures.value

pub returns : goal.returns
returns c = on_ok_weaker c.push_value.result
    (adds_flight c.args.linked.now c.args.machine.now.state.heap c.args.machine.now.state.frames c.args.frame c.requires.fits _ _ _ c.in-Some.thrown c.in-Some.ensures.value
    c.in_ok-push_str.ensures.bytes)
    c.push_value.ensures
