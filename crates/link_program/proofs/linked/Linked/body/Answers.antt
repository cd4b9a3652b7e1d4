use Rattle.std.proofs.Common.{arith}
use Rattle.link_program.proofs.Found.{body_of}
use Rattle.link_program.proofs.Joined.{length-joined}
use Rattle.link_program.proofs.linked.Linked.body.Goals as goal

pub index-requires : goal.index-requires
index-requires c =
    let heads = c.self.inside.shared.value.heads.heads.items in
    let bodies = c.self.inside.bodies in
    let below = rw (← c.self.view_is) at c.requires in
    let many = c.self.invariant.methods.as_many in
    omega (arith, length-joined heads bodies.items many, many, below, bodies.ok.0)

pub returns : goal.returns
returns c = λ m there.
    body_of c.self.inside.shared.value.heads.heads.items c.self.inside.bodies.items c.self.invariant.methods.as_many c.args.method m
    (rw (← c.self.view_is) at there) c.index.result.now c.index.ensures
