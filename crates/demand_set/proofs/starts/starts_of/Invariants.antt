use Rattle.std.proofs.Common.{map}
use Rattle.demand_set.proofs.Filed.{AreFiled}
use Rattle.demand_set.proofs.starts.starts_of.Given as goal

abbrev pub invariant-loop-number : goal.invariant-loop-number
invariant-loop-number l = AreFiled l.number l.nodes l.sites.keys (map (λ v. v.items) l.starts.items)
