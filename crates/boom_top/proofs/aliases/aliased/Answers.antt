use Rattle.explain_text.proofs.Asked.{place_named}
use Rattle.boom_top.proofs.aliases.aliased.Goals as goal

pub alias_text-requires-clause-first : goal.alias_text-requires-clause-first
alias_text-requires-clause-first c =
    place_named c.args.linked.now c.args.asked.now.method.now c.args.asked.now.index c.args.asked.now.local.now c.named-first.result c.named-first.ensures

pub alias_text-requires-clause-second : goal.alias_text-requires-clause-second
alias_text-requires-clause-second c =
    place_named c.args.linked.now c.args.asked.now.method.now c.args.asked.now.index c.args.second.now c.named-second.result c.named-second.ensures
