use Rattle.jim_step.proofs.calls.call_on.Goals as goal

pub returns-in-Virtual-clause-row : goal.returns-in-Virtual-clause-row
returns-in-Virtual-clause-row c = λ top. rw (c.in-Virtual.is, ← c.class.ensures) (c.enter_below.ensures.row top)

pub returns-in-Interface-clause-row : goal.returns-in-Interface-clause-row
returns-in-Interface-clause-row c = λ top. rw (c.in-Interface.is, ← c.class-in-Interface.ensures) (c.enter_below-in-Interface.ensures.row top)
