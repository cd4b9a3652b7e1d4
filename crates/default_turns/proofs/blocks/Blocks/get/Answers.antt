use Rattle.std.proofs.Common.{sym}
use Rattle.default_turns.proofs.Blocking.{known_read}
use Rattle.default_turns.proofs.blocks.Blocks.get.Goals as goal

pub returns-in-Some : goal.returns-in-Some
returns-in-Some c = λ line known. rw c.as_slice.ensures.value (known_read line c.args.self.now c.args.at c.in-Some.reached.now known (sym c.in-Some.ensures.value))
