use Rattle.refined_query.specs.Keeping.{AreAdded, IsKeptAmong}
use Rattle.refined_query.proofs.keeping.keep_targets.Given as goal

abbrev pub invariant-loop-target : goal.invariant-loop-target
invariant-loop-target l = AreAdded (IsKeptAmong l.place l.targets l.target-index l.found) l.fn.kept.items l.kept.items
