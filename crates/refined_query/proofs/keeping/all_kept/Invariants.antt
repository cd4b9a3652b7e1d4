use Rattle.refined_query.specs.Keeping.{AreKeptBefore}
use Rattle.refined_query.proofs.keeping.all_kept.Given as goal

abbrev pub invariant-loop-method : goal.invariant-loop-method
invariant-loop-method g l = AreKeptBefore l.linked l.budget l.method 0 l.kept.items
