use Rattle.std.proofs.Common.{arith}
use Rattle.link_program.proofs.Joined.{length-joined}
use Rattle.link_program.proofs.linked.Linked.head.Goals as goal

pub head-requires : goal.head-requires
head-requires c =
    let below = rw (← c.self.view_is) at c.requires in
    let many = c.self.invariant.methods.as_many in
    rw c.deref.ensures (omega (arith, length-joined c.self.inside.shared.value.heads.heads.items c.self.inside.bodies.items many, below))

pub returns-clause-head : goal.returns-clause-head
returns-clause-head c = λ m there.
    let is = rw c.deref.ensures at c.head.ensures in
    is c.self.inside.bodies.items m c.self.invariant.methods (rw (← c.self.view_is) at there)
