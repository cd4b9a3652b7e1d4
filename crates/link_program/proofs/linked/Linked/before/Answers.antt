use Rattle.link_program.proofs.linked.Linked.before.Goals as goal

pub returns : goal.returns
returns c = rw (← c.self.view_is, c.before-2.ensures) (c.self.invariant.indexes.before c.args.method c.args.index)
