use Rattle.spds_nodes.proofs.sites.made_class.Goals as goal

pub returns-in-None-clause-is : goal.returns-in-None-clause-is
returns-in-None-clause-is c = λ class. ((λ some. absurd (cc (some))), (λ is. absurd (c.in-None.ensures.none is.1.code is.0 is.1.at)))

pub returns-in-None-clause-none : goal.returns-in-None-clause-none
returns-in-None-clause-none c = λ is. c.in-None.ensures.none is.1.code is.0 is.1.at
