use Rattle.post_star.proofs.Jobs.{work_new}
use Rattle.post_star.proofs.work.Work.new.Goals as goal

pub invariant_of-result : goal.invariant_of-result
invariant_of-result g c = work_new g.met.W.Weight.laws _ _ _ _ _ _ _ c.new.ensures.items c.new-2.ensures.items (rw c.deref.ensures at c.rules-rules.ensures.told) (rw c.deref-2.ensures at c.bases-bases.ensures.led) c.new-3.ensures.index c.new-3.ensures.table c.new-3.ensures.taken c.new-3.ensures.begun
