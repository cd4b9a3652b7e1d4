use Rattle.refined_query.proofs.Chosen.{has_there}
use Rattle.refined_query.proofs.keeping.is_among.Goals as goal

pub returns-in-Some : goal.returns-in-Some
returns-in-Some c = rw c.in-Some.is (has_there c.in-Some.found.keys c.args.target c.find.result c.is_some.result c.find.ensures c.is_some.ensures)
