use Rattle.link_program.proofs.linked.Linked.stores.Goals as goal

pub returns : goal.returns
returns c = rw (← c.self.view_is, c.stores.ensures) (c.self.invariant.indexes.stores c.args.field)
