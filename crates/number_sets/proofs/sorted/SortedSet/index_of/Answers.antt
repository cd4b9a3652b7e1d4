use Rattle.std.proofs.Common.{subst, sym}
use Rattle.std.specs.List.Sorted.{IsStrictlyIncreasing}
use Rattle.number_sets.proofs.Found.{position_found, position_absent}
use Rattle.number_sets.proofs.sorted.SortedSet.index_of.Goals as goal

pub returns-in-Ok : goal.returns-in-Ok
returns-in-Ok c = rw (← c.self.view_is, ← c.deref.ensures.value) (position_found _ (subst IsStrictlyIncreasing (sym c.deref.ensures.value) c.self.invariant) c.args.number c.in-Ok.at c.in-Ok.ensures.position)

pub returns-in-Err : goal.returns-in-Err
returns-in-Err c = rw (← c.self.view_is, ← c.deref.ensures.value) (position_absent _ (subst IsStrictlyIncreasing (sym c.deref.ensures.value) c.self.invariant) c.args.number _ c.in-Err.ensures.position)
