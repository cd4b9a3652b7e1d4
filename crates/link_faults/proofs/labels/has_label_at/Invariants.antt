use Rattle.link_rules.specs.Bodies.{IsLabel}
use Rattle.link_faults.proofs.Scans.{NoneBefore}
use Rattle.link_faults.proofs.labels.has_label_at.Given as goal

abbrev pub invariant-loop-label : goal.invariant-loop-label
invariant-loop-label l = NoneBefore (λ label. IsLabel l.body.labels label l.index) l.labels l.label-index
