use Rattle.link_program.proofs.linked.Linked.returns.Goals as goal

pub returns : goal.returns
returns c = rw (← c.self.view_is, c.returns.ensures) (c.self.invariant.indexes.returns c.args.method)
