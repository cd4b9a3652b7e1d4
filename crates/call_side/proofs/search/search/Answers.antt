use Rattle.call_side.specs.Search.{asked}
use Rattle.call_side.specs.Search.{CameIn}
use Rattle.call_side.proofs.Trails.{trail_none}
use Rattle.call_side.proofs.search.search.Goals as goal

pub answer-requires-clause-trail : goal.answer-requires-clause-trail
answer-requires-clause-trail c =
    c.in_ok-add_all.ensures.trail (asked c.args.question.now) (λ pair start. start) (trail_none (CameIn (asked c.args.question.now)) c.new-seen.result.pairs.keys c.new-seen.result.origins.items c.new-seen.ensures.pairs c.new-seen.ensures.origins)

pub answer-requires-clause-begun : goal.answer-requires-clause-begun
answer-requires-clause-begun c pair word start spells = c.in_ok-add_all.ensures.there (asked c.args.question.now) pair word start spells
