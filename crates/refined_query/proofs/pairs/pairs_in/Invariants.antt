use Rattle.std.proofs.Common.{◌≡◌, take}
use Rattle.std.specs.List.{sum_by}
use Rattle.link_rules.specs.Linked.{LinkedMethod}
use Rattle.refined_query.specs.Rounds.{pairs_of}
use Rattle.refined_query.proofs.pairs.pairs_in.Given as goal

abbrev pub invariant-loop-method : goal.invariant-loop-method
invariant-loop-method l = l.count ≡ sum_by (λ (m : LinkedMethod). pairs_of m.code) (take l.method l.linked.methods)
