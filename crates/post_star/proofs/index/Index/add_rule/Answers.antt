use Rattle.post_star.proofs.Found.{index_flow, index_push, index_pop}
use Rattle.post_star.proofs.index.Index.add_rule.Goals as goal

pub returns-in_ok-add-in-Flow : goal.returns-in_ok-add-in-Flow
returns-in_ok-add-in-Flow g c = index_flow c.args.self.now c.add.new.self _ _ _ c.args.rule c.in-Flow.is c.in_ok-add-in-Flow.ensures.last

pub returns-in_ok-add-in-Push : goal.returns-in_ok-add-in-Push
returns-in_ok-add-in-Push g c = index_push c.args.self.now c.add-in-Push.new.self _ _ _ _ c.args.rule c.in-Push.is c.in_ok-add-in-Push.ensures.last

pub returns-in_ok-add-in-Pop-3 : goal.returns-in_ok-add-in-Pop-3
returns-in_ok-add-in-Pop-3 g c = index_pop c.args.self.now c.add-in-Pop.new.self c.add-in-Pop-2.new.self c.add-in-Pop-3.new.self _ _ _ _ c.args.rule c.in-Pop.is c.in_ok-add-in-Pop.ensures.last c.in_ok-add-in-Pop-2.ensures.last c.in_ok-add-in-Pop-3.ensures.last
