use Rattle.auto_table.proofs.table.Table.entries.Goals as goal

pub returns-clause-listed : goal.returns-clause-listed
returns-clause-listed g c = rw (← c.self.view_is, c.keys.ensures.value) c.self.invariant.listed

pub returns-clause-meant : goal.returns-clause-meant
returns-clause-meant g c = rw (← c.self.view_is) c.self.invariant.laid.meant
