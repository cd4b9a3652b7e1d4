use Rattle.spds_solve.proofs.solved.Solved.meets.Goals as goal

pub returns : goal.returns
returns c p q d solved = rw c.as_slice.ensures.value (rw (← c.self.view_is) at solved).mets
