use Rattle.link_program.proofs.linked.Linked.class_number.Goals as goal

pub returns-clause-none : goal.returns-clause-none
returns-clause-none c = rw (← c.self.view_is) (rw c.deref.ensures at c.find.ensures.none)
