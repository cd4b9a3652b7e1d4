use Rattle.link_codes.proofs.exprs.assignment.Goals as goal

pub returns-in-Field-clause-code : goal.returns-in-Field-clause-code
returns-in-Field-clause-code c = λ later kept. rw c.in-Field.is (c.local-to.ensures, c.local.ensures, c.instance_field.ensures later)

pub returns-in-Static-clause-code : goal.returns-in-Static-clause-code
returns-in-Static-clause-code c = λ later kept. rw c.in-Static.is (c.local-to.ensures, c.static_field.ensures later)
