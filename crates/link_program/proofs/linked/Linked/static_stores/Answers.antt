use Rattle.link_program.proofs.linked.Linked.static_stores.Goals as goal

pub returns : goal.returns
returns c = rw (← c.self.view_is, c.static_stores.ensures) (c.self.invariant.indexes.static_stores c.args.field)
