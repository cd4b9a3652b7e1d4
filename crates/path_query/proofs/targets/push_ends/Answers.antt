use Rattle.std.proofs.Common.{◌≡◌, ◌↔◌, ◌⊎◌, List, subst}
use Rattle.lists.specs.Lists.{Has}
use Rattle.spds_rules.specs.declared.node.Node.{Node}
use Rattle.spds_rules.specs.declared.store.StoreAt.{StoreAt}
use Rattle.path_query.proofs.Collecting.{collected_all, collected_more, collected_none, put_two}
use Rattle.path_query.proofs.Asking.{ends_of}
use Rattle.path_query.proofs.targets.push_ends.Goals as goal

abbrev at_ends : StoreAt → Node → Type 0
at_ends s x = (x ≡ s.base) ⊎ (x ≡ s.arg)

pub loop-store-init : goal.loop-store-init
loop-store-init c = collected_none at_ends (Has c.args.targets.now.items)

pub loop-store-preserved : goal.loop-store-preserved
loop-store-preserved c =
    collected_more at_ends (Has c.args.targets.now.items) c.as_slice-store-items.result.now c.loop-store.store-index _ c.loop-store-test.true (Has c.loop-store.targets.items)
    (Has c.push-in-loop-store.new.self.items) c.loop-store.invariant
    (put_two c.loop-store.targets.items c.push.new.self.items c.push-in-loop-store.new.self.items _ _ c.in_ok-push.ensures.items c.in_ok-push-2.ensures.items)

pub returns : goal.returns
returns c =
    ends_of c.args.linked.now c.args.field c.in_ok-stores.stores.items (Has c.args.targets.now.items) (Has c.loop-store.targets.items) c.in_ok-stores.ensures.all
    (subst (λ (stores : List StoreAt). (m : Node) → Has c.loop-store.targets.items m ↔ (Has c.args.targets.now.items m ⊎ ((s : StoreAt) × Has stores s × at_ends s m))) c.as_slice-store-items.ensures.value
    (collected_all at_ends (Has c.args.targets.now.items) c.as_slice-store-items.result.now c.loop-store.store-index c.loop-store-test.false (Has c.loop-store.targets.items) c.loop-store.invariant))
