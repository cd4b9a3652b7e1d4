use Rattle.lists.proofs.Keys.{Adds-insert_key, insert_key-new}
use Rattle.lists.proofs.Places.{Has-adds_itself}
use Rattle.std.proofs.Common.{◌≡◌, ◌∷◌, ◌++◌, [], false, refl, ◌∙◌, eqb, eqb-true, eq-eqb}
use Rattle.std.specs.List.{list_any}
use Rattle.call_side.proofs.Trails.{homes_more, not_new}
use Rattle.call_side.proofs.homes.Homes.add.Goals as goal

pub returns-in_ok-push-clause-homes : goal.returns-in_ok-push-clause-homes
returns-in_ok-push-clause-homes c steps last may homes =
    let old = c.args.self.now.bases.keys in
    let new : list_any (eqb c.args.base) old ≡ false = not_new c.in_ok-insert.field-0 _ c.in_ok-insert.ensures.added c.if-branch.true in
    let keys : c.insert.new.self.keys ≡ old ++ c.args.base ∷ [] = c.in_ok-insert.ensures.keys ∙ insert_key-new eqb eqb-true (λ y. eq-eqb y y refl) old old c.args.base refl new in
    rw (keys, c.in_ok-push.ensures.items) (homes_more steps last old c.args.base c.args.self.now.origins.items c.args.origin may homes)

pub returns-else-branch-clause-there : goal.returns-else-branch-clause-there
returns-else-branch-clause-there c =
    rw c.in_ok-insert.ensures.keys (Has-adds_itself c.args.self.now.bases.keys _ c.args.base (Adds-insert_key eqb eqb-true (λ y. eq-eqb y y refl) c.args.self.now.bases.keys c.args.base))
