use Rattle.post_star.proofs.Applies.{decide_by}
use Rattle.post_star.proofs.Loops.{begun_taken}
use Rattle.post_star.proofs.Parted.{taken_behind}
use Rattle.post_star.proofs.work.finish.Goals as goal

pub take_starts-requires-clause-begun : goal.take_starts-requires-clause-begun
take_starts-requires-clause-begun g c =
    let waits = taken_behind g.W.Weight.domain c.args.system.now.common.rules.now c.args.system.now.own.rules.now c.args.rising.now.table c.in_ok-items.items.items c.args.taken c.in_ok-items.ensures in
    begun_taken g.met.W.Weight.laws _ c.requires.told c.requires.sound _ _ c.args.begun c.requires.closed waits (decide_by g.W.Weight.domain g.W.PartialEq.eq g.met.W.Weight.same g.met.W.Eq.laws.refl)
