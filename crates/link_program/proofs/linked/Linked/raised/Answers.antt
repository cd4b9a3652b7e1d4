use Rattle.link_program.proofs.linked.Linked.raised.Goals as goal

pub returns : goal.returns
returns c = rw (← c.self.view_is, c.raised.ensures) (c.self.invariant.indexes.raised c.args.method)
