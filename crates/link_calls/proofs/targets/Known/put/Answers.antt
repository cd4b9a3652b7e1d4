use Rattle.link_calls.proofs.Pairs.{known_put}
use Rattle.link_calls.proofs.targets.Known.put.Goals as goal

pub returns : goal.returns
returns c = λ w known is_found. known_put w c.args.self.now (record { found = c.insert.new.self }) c.args.class c.args.key c.args.found known is_found c.in_ok-insert.ensures.updates
