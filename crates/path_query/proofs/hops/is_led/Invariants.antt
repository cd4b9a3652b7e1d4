use Rattle.std.proofs.Common.{◌≡◌, Some, slice_get, take}
use Rattle.lists.specs.Lists.{Has}
use Rattle.link_rules.specs.Linked.{LinkedProgram}
use Rattle.link_sites.specs.declared.site.Site.{Site}
use Rattle.spds_rules.specs.Demand.{Asked}
use Rattle.demand_set.specs.Demands.{DemandParts}
use Rattle.spds_solve.specs.Solved.{IsSolved}
use Rattle.path_query.specs.declared.hops.Way.{Way}
use Rattle.path_query.specs.Numbers.{LeadsTo}
use Rattle.path_query.proofs.hops.is_led.Given as goal

-- none of the first ways leads there
abbrev pub invariant-loop-way : goal.invariant-loop-way
invariant-loop-way l = (p : LinkedProgram) (q : Asked) (d : DemandParts) (o : Site) → IsSolved p q d l.solved → slice_get d.sites l.site ≡ Some o
    → (w : Way) → Has (take l.way-index l.ways) w → LeadsTo p q d o w → ⊥
