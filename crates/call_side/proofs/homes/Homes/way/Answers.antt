use Rattle.std.proofs.Common.{refl, sym, eqb, eqb-true, eq-eqb}
use Rattle.lists.proofs.Keys.{not-found, slice_get-position}
use Rattle.call_side.proofs.homes.Homes.way.Goals as goal

pub returns-in_ok-marks_back-in-Some-clause-some : goal.returns-in_ok-marks_back-in-Some-clause-some
returns-in_ok-marks_back-in-Some-clause-some c = (
  c.in-Some.number,
  slice_get-position eqb eqb-true (λ y. eq-eqb y y refl) c.args.self.now.bases.keys c.args.base c.in-Some.number c.in-Some.ensures.index,
  rw c.deref.ensures.value at c.in_ok-marks_back-in-Some.ensures,
)

pub returns-in-None-clause-none : goal.returns-in-None-clause-none
returns-in-None-clause-none c = not-found eqb eqb-true (λ y. eq-eqb y y refl) c.args.self.now.bases.keys c.args.base (sym c.in-None.ensures.found)
