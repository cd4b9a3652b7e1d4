use Rattle.jim_step.proofs.entering.args_at.Goals as goal

pub operands-requires : goal.operands-requires
operands-requires c = rw c.as_slice.ensures (rw c.in-Call.is at (c.requires c.in-Some.code.now c.in-Some.ensures.some)).1
