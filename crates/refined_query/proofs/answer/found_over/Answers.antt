use Rattle.refined_query.proofs.answer.found_over.Goals as goal

pub returns-clause-sites : goal.returns-clause-sites
returns-clause-sites g c = let are = c.in_ok-sites.ensures in rw c.from_vec.ensures are
