use Rattle.std.proofs.Common.{◌≡◌, Some, slice_get, sym, ◌∙◌, subst}
use Rattle.lists.specs.Lists.{Has}
use Rattle.lists.proofs.Places.{Has-adds_itself}
use Rattle.spds_rules.specs.declared.node.Node.{Node}
use Rattle.track_tables.proofs.Growing.{kept_adds}
use Rattle.track_tables.proofs.opening.add_base.Goals as goal

pub returns-in_ok-add-clause-kept : goal.returns-in_ok-add-clause-kept
returns-in_ok-add-clause-kept c = kept_adds c.args.bases.now.keys c.add.new.self.keys c.in-Some.node.place.method c.in_ok-add.ensures.keys

pub returns-in_ok-add-clause-has : goal.returns-in_ok-add-clause-has
returns-in_ok-add-clause-has c = λ n there.
    let found : slice_get c.args.nodes.now c.args.number ≡ Some c.in-Some.node = sym c.in-Some.ensures in
    let same : n ≡ c.in-Some.node = cc in
    subst (λ (m : Node). Has c.add.new.self.keys m.place.method) (sym same)
    (Has-adds_itself c.args.bases.now.keys c.add.new.self.keys c.in-Some.node.place.method c.in_ok-add.ensures.keys)

pub returns-in_default-clause-has : goal.returns-in_default-clause-has
returns-in_default-clause-has c = λ n there. absurd (c.in_default.not-Some n (c.node_at.ensures ∙ there))
