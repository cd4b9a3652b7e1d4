use Rattle.post_star.proofs.Jobs.{start_added}
use Rattle.post_star.proofs.work.Work.add_start.Goals as goal

pub invariant_of-self-2 : goal.invariant_of-self-2
invariant_of-self-2 g c = start_added g.met.W.Weight.laws c.self.invariant c.args.start c.told.ensures (rw (← c.self.view_is) at c.requires.led) c.push.new.self.items c.in_ok-push.ensures.items
