use Rattle.link_reach.proofs.Finding.{finds_class_ok}
use Rattle.link_reach.proofs.search.visit_class.Goals as goal

pub returns-clause-found : goal.returns-clause-found
returns-clause-found c = finds_class_ok _ _ _ _ _ c.initialize.result c.in_ok-climb.ensures c.initialize.ensures.found
