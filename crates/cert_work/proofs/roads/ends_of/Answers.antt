use Rattle.std.proofs.Common.{◌↔◌, List, arith, subst}
use Rattle.std.proofs.lemmas.List.{take_all}
use Rattle.std.proofs.lemmas.Option.{slice_get-get_or}
use Rattle.lists.specs.Lists.{Has}
use Rattle.spds_rules.specs.declared.node.Node.{Node}
use Rattle.spds_rules.specs.declared.store.StoreAt.{StoreAt}
use Rattle.cert_work.proofs.Filed.{IsEndAmong, apart_first, ends_first, ends_next}
use Rattle.cert_work.proofs.roads.ends_of.Goals as goal

pub loop-store-init : goal.loop-store-init
loop-store-init c = record {
  has = ends_first c.args.target c.args.stores.now c.new-ends.result.keys c.add.new.self.keys c.new-ends.ensures c.in_ok-add.ensures.keys;
  apart = apart_first c.args.target c.new-ends.result.keys c.add.new.self.keys c.new-ends.ensures c.in_ok-add.ensures.keys;
}

pub loop-store-preserved : goal.loop-store-preserved
loop-store-preserved c = record {
  has = ends_next c.args.target c.args.stores.now c.loop-store.store-index _ (slice_get-get_or _ _ _ c.loop-store-test.true) (λ (n : Node). Has c.loop-store.ends.keys n)
      (λ (n : Node). Has c.add_ends.new.ends.keys n) c.in_ok-add_ends.ensures.has c.loop-store.invariant.has;
  apart = c.in_ok-add_ends.ensures.apart c.loop-store.invariant.apart;
}

pub returns-clause-has : goal.returns-clause-has
returns-clause-has c =
    let all = take_all c.loop-store.store-index c.args.stores.now (omega arith) in
    subst (λ (ss : List StoreAt). (n : Node) → Has c.loop-store.ends.keys n ↔ IsEndAmong c.args.target ss n) all c.loop-store.invariant.has
