use Rattle.std.proofs.Common.{sym, refl}
use Rattle.spds_nodes.proofs.Formed.{formal_itself}
use Rattle.spds_nodes.proofs.formals.formal.Goals as goal

pub returns-in-Some : goal.returns-in-Some
returns-in-Some c = sym ((c.in-Some.ensures c.in-Some.x).0 refl)

pub returns-in-None : goal.returns-in-None
returns-in-None c = formal_itself c.args.code.now c.args.position (λ x is. let none = (c.in-None.ensures x).1 is in cc (none))
