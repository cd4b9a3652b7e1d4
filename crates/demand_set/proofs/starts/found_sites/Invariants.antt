use Rattle.std.proofs.Common.{◌≤◌, ◌↔◌, length, take}
use Rattle.lists.specs.Lists.{Has}
use Rattle.link_sites.specs.declared.site.Site.{Site}
use Rattle.demand_set.specs.Starts.{HasStart}
use Rattle.demand_set.proofs.starts.found_sites.Given as goal

abbrev pub invariant-loop-node : goal.invariant-loop-node
invariant-loop-node l = record {
  found : (s : Site) → Has l.sites.keys s ↔ HasStart (take l.node-index l.nodes) s;
  few : length l.sites.keys ≤ l.node-index;
}
