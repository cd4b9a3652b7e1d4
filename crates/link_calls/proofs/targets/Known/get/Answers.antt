use Rattle.link_calls.proofs.Pairs.{known_read}
use Rattle.link_calls.proofs.targets.Known.get.Goals as goal

pub returns : goal.returns
returns c = λ w known. known_read w c.args.self.now c.args.class c.args.key c.get.result known c.get.ensures.value
