use Rattle.link_rules.specs.Bodies.{HasNoLabel}
use Rattle.link_faults.proofs.Scans.{NoneBefore}
use Rattle.link_faults.proofs.labels.has_missing_label.Given as goal

abbrev pub invariant-loop-label : goal.invariant-loop-label
invariant-loop-label l = NoneBefore (HasNoLabel l.body.labels) l.labels l.label-index
