use Rattle.std.proofs.Common.{arith}
use Rattle.demand_set.specs.Starts.{IsKept}
use Rattle.demand_set.proofs.set.Demand.of_walk.Goals as goal

pub invariant_of-result : goal.invariant_of-result
invariant_of-result c = (
  record {
    nodes_apart = c.requires.apart;
    sites_apart = c.in_ok-sites.ensures.apart;
    few = c.requires.few;
    few_sites = omega (arith, c.requires.few, rw c.as_slice.ensures.value at c.in_ok-sites.ensures.few);
    are_starts = rw c.as_slice-2.ensures.value at c.in_ok-starts.ensures;
  },
  c.requires.numbered,
)

pub returns-clause-sites : goal.returns-clause-sites
returns-clause-sites c = record { each = rw c.as_slice.ensures.value at c.in_ok-sites.ensures.found; ordered = c.in_ok-sites.ensures.ordered }
