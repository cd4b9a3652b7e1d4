use Rattle.lists.specs.Lists.{Has}
use Rattle.path_query.specs.Numbers.{IsWay}
use Rattle.path_query.proofs.Collecting.{collected_all, collected_more, collected_none, from_none}
use Rattle.path_query.proofs.hops.ways_over.Goals as goal

pub loop-store-init : goal.loop-store-init
loop-store-init c = λ q posed. collected_none (λ s x. IsWay c.args.posed.now.linked.now q c.args.posed.now.demand.now c.args.owners.now s x) (Has c.new-ways.result.items)

pub loop-store-preserved : goal.loop-store-preserved
loop-store-preserved c = λ q posed.
    collected_more (λ s x. IsWay c.args.posed.now.linked.now q c.args.posed.now.demand.now c.args.owners.now s x) (Has c.new-ways.result.items) c.args.stores.now c.loop-store.store-index _ c.loop-store-test.true
    (Has c.loop-store.ways.items) (Has c.push_store.new.ways.items) (c.loop-store.invariant q posed) (c.in_ok-push_store.ensures q posed)

pub returns : goal.returns
returns c = λ q posed.
    from_none (λ s x. IsWay c.args.posed.now.linked.now q c.args.posed.now.demand.now c.args.owners.now s x) c.args.stores.now c.new-ways.result.items c.loop-store.ways.items c.new-ways.ensures.items
    (collected_all (λ s x. IsWay c.args.posed.now.linked.now q c.args.posed.now.demand.now c.args.owners.now s x) (Has c.new-ways.result.items) c.args.stores.now c.loop-store.store-index c.loop-store-test.false
    (Has c.loop-store.ways.items) (c.loop-store.invariant q posed))
