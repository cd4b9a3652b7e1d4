use Rattle.lists.proofs.Keys.{Adds-insert_key, insert_key-new}
use Rattle.lists.proofs.Places.{Has-adds_itself}
use Rattle.std.proofs.Common.{◌≡◌, ◌∷◌, ◌++◌, [], false, refl, ◌∙◌}
use Rattle.std.specs.List.{list_any}
use Rattle.call_side.specs.contracts.pairs.PairPartialEq.TheImpl as pairs
use Rattle.call_side.proofs.Trails.{not_new, same_pair, self_pair, trail_more}
use Rattle.call_side.proofs.pairs.Seen.add.Goals as goal

pub returns-in_ok-push-clause-trail : goal.returns-in_ok-push-clause-trail
returns-in_ok-push-clause-trail c q may trail =
    let old = c.args.self.now.pairs.keys in
    let new : list_any (pairs.eq-value.it c.args.pair) old ≡ false = not_new c.in_ok-insert.field-0 _ c.in_ok-insert.ensures.added c.if-branch.true in
    let keys : c.insert.new.self.keys ≡ old ++ c.args.pair ∷ [] = c.in_ok-insert.ensures.keys ∙ insert_key-new pairs.eq-value.it same_pair self_pair old old c.args.pair refl new in
    rw (keys, c.in_ok-push.ensures.items) (trail_more q old c.args.pair c.args.self.now.origins.items c.args.origin may trail)

pub returns-else-branch-clause-there : goal.returns-else-branch-clause-there
returns-else-branch-clause-there c q word spells =
    rw c.in_ok-insert.ensures.keys (Has-adds_itself c.args.self.now.pairs.keys _ c.args.pair (Adds-insert_key pairs.eq-value.it same_pair self_pair c.args.self.now.pairs.keys c.args.pair))
