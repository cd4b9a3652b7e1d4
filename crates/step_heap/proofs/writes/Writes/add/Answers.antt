use Rattle.std.proofs.Common.{arith}
use Rattle.step_heap.proofs.Added.{IsIndexed-add}
use Rattle.step_heap.proofs.writes.Writes.add.Goals as goal

pub invariant_of-self-2 : goal.invariant_of-self-2
invariant_of-self-2 c =
    rw (c.in_ok-push.ensures.items, c.reserve.ensures.items)
    (IsIndexed-add c.self.inside.all.items c.self.inside.latest c.index.new.latest c.self.inside.cells.items c.index.new.cells.items c.args.written
    c.self.invariant (omega arith) c.in_ok-index.ensures.ok)
