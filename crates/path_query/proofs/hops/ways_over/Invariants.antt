use Rattle.std.proofs.Common.{◌↔◌, ◌⊎◌, take}
use Rattle.lists.specs.Lists.{Has}
use Rattle.spds_rules.specs.Demand.{Asked}
use Rattle.path_query.specs.declared.hops.Way.{Way}
use Rattle.path_query.specs.Numbers.{IsPosed, IsWay}
use Rattle.path_query.proofs.Collecting.{From}
use Rattle.path_query.proofs.hops.ways_over.Given as goal

-- those over the first stores
abbrev pub invariant-loop-store : goal.invariant-loop-store
invariant-loop-store l = (q : Asked) → IsPosed l.posed.linked.now q l.posed.demand.now l.posed.solved.now → (w : Way)
    → Has l.ways.items w ↔ (Has l.initial.ways.items w ⊎ From (λ s x. IsWay l.posed.linked.now q l.posed.demand.now l.owners s x) (take l.store-index l.stores) w)
