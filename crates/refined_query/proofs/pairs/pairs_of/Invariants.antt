use Rattle.std.proofs.Common.{◌≡◌, take}
use Rattle.std.specs.List.{sum_by}
use Rattle.narrow_rules.specs.Narrowed.{targets_at}
use Rattle.refined_query.proofs.pairs.pairs_of.Given as goal

abbrev pub invariant-loop-code : goal.invariant-loop-code
invariant-loop-code l = l.count ≡ sum_by targets_at (take l.code-index l.codes)
