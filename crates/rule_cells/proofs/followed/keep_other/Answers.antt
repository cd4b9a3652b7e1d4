use Rattle.rule_cells.proofs.Following.{added_last}
use Rattle.rule_cells.proofs.followed.keep_other.Goals as goal

pub returns : goal.returns
returns g c rules kept sights = rw c.in_ok-push.ensures.items (added_last g.W.Weight.domain rules c.args.few.now.items c.args.rule.now)
