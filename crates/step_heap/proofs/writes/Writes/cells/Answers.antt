use Rattle.std.proofs.Common.{arith}
use Rattle.step_heap.proofs.Added.{length-values_in}
use Rattle.step_heap.proofs.writes.Writes.cells.Goals as goal

pub returns-clause-few : goal.returns-clause-few
returns-clause-few c = rw (c.as_slice.ensures.value, c.self.invariant.are_cells)
    (omega (arith, length-values_in c.self.inside.all.items 0, c.self.invariant.few))
