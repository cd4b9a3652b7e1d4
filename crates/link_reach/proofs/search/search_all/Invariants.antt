use Rattle.std.proofs.Common.{◌≡◌}
use Rattle.link_reach.specs.Search.{IsSearched, left_of}
use Rattle.link_reach.proofs.search.search_all.Given as goal

abbrev pub invariant-loop-search : goal.invariant-loop-search
invariant-loop-search l = record {
  same : l.targets ≡ l.initial.targets;
  searched : IsSearched l.targets.world l.search;
}

abbrev pub decreases-loop-search : goal.decreases-loop-search
decreases-loop-search l = left_of l.targets.world l.search
