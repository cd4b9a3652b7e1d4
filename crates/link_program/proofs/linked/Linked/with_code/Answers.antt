use Rattle.std.proofs.Common.{sym}
use Rattle.link_program.proofs.Coded.{kept_coded, program_coded}
use Rattle.link_program.proofs.linked.Linked.with_code.Goals as goal

pub invariant_of-result : goal.invariant_of-result
invariant_of-result c =
    let form = rw (← c.self.view_is) at c.requires.form in
    let many = rw (← c.self.view_is) at c.requires.as_many in
    let indexes = rw c.as_slice.ensures.value at c.in_ok-indexes.ensures in
    rw c.in_ok-clone.ensures.cases
    (kept_coded c.self.inside.shared.value c.self.inside.bodies.items c.args.bodies.items c.self.inside.indexes c.in_ok-indexes.indexes c.self.invariant many form indexes)

pub returns : goal.returns
returns c = rw (c.in_ok-clone.ensures.cases, ← c.self.view_is)
    (sym (program_coded c.self.inside.shared.value c.self.inside.bodies.items c.args.bodies.items c.self.invariant.methods.as_many))
