use Rattle.link_indexes.proofs.before.put_before.Goals as goal

pub returns-in-Switch : goal.returns-in-Switch
returns-in-Switch c = rw c.in-Switch.is (rw (← c.as_slice.ensures) c.put_all.ensures)
