use Rattle.spds_nodes.proofs.formals.local_formal_of.Goals as goal

pub returns-in-This : goal.returns-in-This
returns-in-This c = rw c.in-This.is c.local_formal.ensures

pub returns-in-Param : goal.returns-in-Param
returns-in-Param c = rw c.in-Param.is c.local_formal-in-Param.ensures
