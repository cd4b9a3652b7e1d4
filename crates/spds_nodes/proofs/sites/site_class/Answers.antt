use Rattle.std.proofs.Common.{refl}
use Rattle.spds_nodes.proofs.sites.site_class.Goals as goal

pub constant_class-requires-in-Class : goal.constant_class-requires-in-Class
constant_class-requires-in-Class c = (2, refl)

pub returns-in-New-clause-is : goal.returns-in-New-clause-is
returns-in-New-clause-is c = λ class. rw c.in-New.is (c.made_class.ensures.is class)

pub returns-in-Nested-clause-is : goal.returns-in-Nested-clause-is
returns-in-Nested-clause-is c = λ class. rw c.in-Nested.is (c.nested_class.ensures.is class)

pub returns-in-Raised-clause-is : goal.returns-in-Raised-clause-is
returns-in-Raised-clause-is c = λ class. rw c.in-Raised.is (c.raised_class.ensures.is class)

pub returns-in-Text-clause-is : goal.returns-in-Text-clause-is
returns-in-Text-clause-is c = λ class. rw (c.in-Text.is, ← c.texts.ensures) (c.constant_class.ensures.is class)

pub returns-in-Class-clause-is : goal.returns-in-Class-clause-is
returns-in-Class-clause-is c = λ class. rw (c.in-Class.is, ← c.class_texts.ensures) (c.constant_class-in-Class.ensures.is class)
