use Rattle.run_report.proofs.Ending.{frame_stands}
use Rattle.run_report.proofs.ends.push_at.Goals as goal

pub push_place_text-requires : goal.push_place_text-requires
push_place_text-requires c =
    frame_stands c.args.linked.now c.args.machine.now.state.heap c.args.machine.now.state.frames c.args.frame c.requires.fits c.place-place.result c.requires.there c.place-place.ensures
