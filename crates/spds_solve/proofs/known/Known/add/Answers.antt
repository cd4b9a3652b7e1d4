use Rattle.spds_solve.proofs.known.Known.add.Goals as goal

pub returns-in-Arg-clause-there : goal.returns-in-Arg-clause-there
returns-in-Arg-clause-there c = rw c.in-Arg.is c.add_arg.ensures.there

pub returns-in-Base-clause-there : goal.returns-in-Base-clause-there
returns-in-Base-clause-there c = rw c.in-Base.is c.add_base.ensures.there
