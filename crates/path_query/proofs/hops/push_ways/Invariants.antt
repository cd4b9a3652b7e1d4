use Rattle.std.proofs.Common.{◌↔◌, ◌⊎◌, [], ◌∷◌, take}
use Rattle.lists.specs.Lists.{Has}
use Rattle.spds_rules.specs.Demand.{Asked}
use Rattle.path_query.specs.declared.hops.Way.{Way}
use Rattle.path_query.specs.Numbers.{IsPosed, IsWay}
use Rattle.path_query.proofs.Collecting.{From}
use Rattle.path_query.proofs.hops.push_ways.Given as goal

-- those from the first owners
abbrev pub invariant-loop-owner : goal.invariant-loop-owner
invariant-loop-owner l = (q : Asked) → IsPosed l.posed.linked.now q l.posed.demand.now l.posed.solved.now → (w : Way)
    → Has l.ways.items w ↔ (Has l.initial.ways.items w ⊎ From (λ k x. IsWay l.posed.linked.now q l.posed.demand.now (k ∷ []) l.store x) (take l.owner-index l.owners) w)
