use Rattle.auto_table.proofs.table.Table.number_of.Goals as goal

pub returns : goal.returns
returns g c = rw (← c.self.view_is) c.find.ensures
