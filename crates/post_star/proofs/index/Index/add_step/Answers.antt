use Rattle.post_star.proofs.Found.{index_step}
use Rattle.post_star.proofs.index.Index.add_step.Goals as goal

pub returns : goal.returns
returns g c = index_step c.args.self.now c.add.new.self c.args.step c.in_ok-add.ensures.last
