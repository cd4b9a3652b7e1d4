use Rattle.refined_query.specs.Keeping.{AreKeptBefore}
use Rattle.refined_query.proofs.keeping.keep_in.Given as goal

abbrev pub invariant-loop-at : goal.invariant-loop-at
invariant-loop-at g l = AreKeptBefore l.linked l.budget l.method l.at l.kept.items
