use Rattle.std.proofs.Common.{◌≡◌, map, take}
use Rattle.cert_replay.specs.Joins.{joined_by}
use Rattle.cert_replay.proofs.edges.stored.Given as goal

abbrev pub invariant-loop-store : goal.invariant-loop-store
invariant-loop-store l = l.pairs.keys ≡ map joined_by (take l.store-index l.stores)
