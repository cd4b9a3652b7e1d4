use Rattle.link_faults.specs.AtSite.{Refuses}
use Rattle.link_faults.proofs.Scans.{NoneBefore}
use Rattle.link_faults.proofs.site.Site.first_among.Given as goal

abbrev pub invariant-loop-kind : goal.invariant-loop-kind
invariant-loop-kind l = NoneBefore (Refuses l.self) l.rules l.kind-index
