use Rattle.std.proofs.Common.{refl}
use Rattle.spds_nodes.proofs.sites.nested_class.Goals as goal

pub class_named-requires : goal.class_named-requires
class_named-requires c = (0, refl)

pub returns-then-has_level-clause-is : goal.returns-then-has_level-clause-is
returns-then-has_level-clause-is c = λ class. (
  (λ some. (
    (c.in-Some.ensures.some.0, record { code = c.in-Some.code.now; at = c.in-Some.ensures.some.1; is_so = c.has_level.ensures.0 c.if-has_level.true }),
    (c.class_named.ensures.is class).0 some,
  )),
  (λ is. (c.class_named.ensures.is class).1 is.1),
)

pub returns-in-None-clause-is : goal.returns-in-None-clause-is
returns-in-None-clause-is c = λ class. ((λ some. absurd (cc (some))), (λ is. absurd (c.in-None.ensures.none is.0.1.code is.0.0 is.0.1.at)))

pub returns-in-None-clause-none : goal.returns-in-None-clause-none
returns-in-None-clause-none c = λ is. c.in-None.ensures.none is.1.code is.0 is.1.at
