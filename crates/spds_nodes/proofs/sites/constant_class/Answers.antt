use Rattle.spds_nodes.proofs.sites.constant_class.Goals as goal

pub returns-then-number-count-clause-is : goal.returns-then-number-count-clause-is
returns-then-number-count-clause-is c =
    λ class. ((λ some. (c.if-number-count.true, (c.class_named.ensures.is class).0 some)), (λ is. (c.class_named.ensures.is class).1 is.1))
