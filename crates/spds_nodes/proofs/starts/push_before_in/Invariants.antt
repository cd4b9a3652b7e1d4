use Rattle.std.proofs.Common.{◌<◌}
use Rattle.link_sites.specs.Places.{before}
use Rattle.spds_rules.specs.Nodes.{at}
use Rattle.spds_nodes.specs.Added.{IsAdded, Over}
use Rattle.spds_nodes.specs.Starts.{IsThere}
use Rattle.spds_nodes.proofs.starts.push_before_in.Given as goal

abbrev pub invariant-loop-index : goal.invariant-loop-index
invariant-loop-index l = IsAdded (Over (λ i. i < l.index) (λ i. IsThere l.linked (at (before l.method i) l.var))) l.fn.nodes.items l.nodes.items
