use Rattle.boom_top.proofs.OneReply.{replies_one}
use Rattle.boom_top.proofs.laws.replies_are_one.Goals as goal

pub returns : goal.returns
returns c = replies_one
