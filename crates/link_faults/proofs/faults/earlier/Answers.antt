use Rattle.std.proofs.Common.{inl, refl}
use Rattle.link_faults.proofs.faults.earlier.Goals as goal

pub returns-then-comes_before : goal.returns-then-comes_before
returns-then-comes_before c = rw (c.in-Some-Some.is-0, c.in-Some-Some.is-1) (inl (refl, c.comes_before.ensures.0 c.if-comes_before.true))
