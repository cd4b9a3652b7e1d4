use Rattle.jim_step.proofs.Takers.{stands_at_call}
use Rattle.jim_step.proofs.Tops.{some_top}
use Rattle.jim_step.proofs.leaving.receive.Goals as goal

pub wanted-requires : goal.wanted-requires
wanted-requires c =
    let top = some_top c.args.kept.now.frames.items c.requires.some in
    let takes = c.requires.caller top.0 top.1 top.2 in
    let place = (rw c.as_slice.ensures.value at c.top_place-place.ensures) top.0 top.1 top.2 in
    rw place (stands_at_call c.args.linked.now top.1 takes)
