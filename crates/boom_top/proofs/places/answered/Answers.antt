use Rattle.explain_text.proofs.Asked.{place_named}
use Rattle.boom_top.proofs.places.answered.Goals as goal

pub answer_text-requires-clause-target : goal.answer_text-requires-clause-target
answer_text-requires-clause-target c =
    place_named c.args.linked.now c.args.asked.now.method.now c.args.asked.now.index c.args.asked.now.local.now c.named-node.result c.named-node.ensures
