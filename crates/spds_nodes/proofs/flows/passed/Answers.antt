use Rattle.spds_nodes.proofs.flows.passed.Goals as goal

pub returns-in-Param : goal.returns-in-Param
returns-in-Param c = λ v. rw (c.in-Call.is, c.in-Param.is, ← c.as_slice.ensures) (c.passed_arg.ensures v)
