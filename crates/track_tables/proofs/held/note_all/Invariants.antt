use Rattle.std.proofs.Common.{◌≡◌, ℕ, Some, eqb, slice_get}
use Rattle.demand_set.specs.Demands.{DemandParts}
use Rattle.lists.specs.Groups.{items_with}
use Rattle.link_rules.specs.Linked.{LinkedProgram}
use Rattle.link_sites.specs.declared.site.Site.{Site}
use Rattle.spds_rules.specs.Demand.{Asked}
use Rattle.spds_solve.specs.Solved.{IsSolved}
use Rattle.track_tables.specs.Held.{AreOfDemand, IsHeldAt}
use Rattle.track_tables.proofs.Noting.{AreFirst}
use Rattle.track_tables.proofs.held.note_all.Given as goal

abbrev pub invariant-loop-place : goal.invariant-loop-place
invariant-loop-place l = (p : LinkedProgram) (q : Asked) (d : DemandParts) (site : ℕ) (a : Site) → IsSolved p q d l.solved → AreOfDemand d l.nodes
    → slice_get d.sites site ≡ Some a → AreFirst (IsHeldAt p q d a l.nodes) l.place (items_with eqb l.noted.items site)
