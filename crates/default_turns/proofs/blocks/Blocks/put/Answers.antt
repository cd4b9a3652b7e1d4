use Rattle.default_turns.proofs.Blocking.{known_put}
use Rattle.default_turns.proofs.blocks.Blocks.put.Goals as goal

pub returns : goal.returns
returns c = λ line known is.
    known_put line c.args.self.now (record { alloc = c.args.self.now.alloc; known = c.insert.new.self }) c.args.at c.args.reached known is c.in_ok-insert.ensures.updates
