use Rattle.link_program.proofs.linked.Linked.callers.Goals as goal

pub returns : goal.returns
returns c = rw (← c.self.view_is, c.callers.ensures) (c.self.invariant.indexes.callers c.args.target)
