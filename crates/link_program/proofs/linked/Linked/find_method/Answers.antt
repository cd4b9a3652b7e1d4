use Rattle.std.proofs.Common.{arith}
use Rattle.link_program.proofs.Found.{first_text, no_text, root_text}
use Rattle.link_program.proofs.linked.Linked.find_method.Goals as goal

pub returns-in_err-number-clause-none : goal.returns-in_err-number-clause-none
returns-in_err-number-clause-none c =
    let none = rw c.deref.ensures at c.in_err-number.ensures.none in
    rw (c.from_residual.ensures, ← c.self.view_is) (no_text _ c.args.text.now (none c.self.inside.bodies.items c.self.invariant.methods))

pub returns-then-number-root-clause-some : goal.returns-then-number-root-clause-some
returns-then-number-root-clause-some c =
    let last = rw (← c.self.view_is) at c.root.ensures in
    let some = rw c.deref.ensures at c.in_ok-number.ensures.some in
    rw (← c.self.view_is) (first_text _ c.args.text.now c.in_ok-number.number (some c.self.inside.bodies.items c.self.invariant.methods) (omega (arith, last, c.if-number-root.true)))

pub returns-clause-none : goal.returns-clause-none
returns-clause-none c =
    let last = rw (← c.self.view_is) at c.root.ensures in
    let some = rw c.deref.ensures at c.in_ok-number.ensures.some in
    rw (← c.self.view_is) (root_text _ c.args.text.now c.in_ok-number.number c.root.result (some c.self.inside.bodies.items c.self.invariant.methods) c.if-number-root.false last)
