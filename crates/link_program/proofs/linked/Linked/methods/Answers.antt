use Rattle.std.proofs.Common.{arith}
use Rattle.link_program.proofs.Joined.{length-joined}
use Rattle.link_program.proofs.linked.Linked.methods.Goals as goal

pub returns-clause-count : goal.returns-clause-count
returns-clause-count c =
    let many = c.self.invariant.methods.as_many in
    rw (← c.self.view_is) (omega (arith, length-joined c.self.inside.shared.value.heads.heads.items c.self.inside.bodies.items many, many, c.len.ensures, c.self.inside.bodies.ok.0))
