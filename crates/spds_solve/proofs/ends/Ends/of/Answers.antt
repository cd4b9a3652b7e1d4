use Rattle.std.proofs.Common.{ℕ, subst, arith}
use Rattle.spds_solve.specs.Ends.{AreEndsBelow}
use Rattle.spds_solve.proofs.Ending.{ends_by, ends_none}
use Rattle.spds_solve.proofs.ends.Ends.of.Goals as goal

pub loop-store-init : goal.loop-store-init
loop-store-init c = rw c.new-ends.ensures.items (ends_none c.args.parts.now)

pub returns : goal.returns
returns c =
    ends_by c.args.parts.now _ c.loop-store.ends.items
    (subst (λ (n : ℕ). AreEndsBelow c.args.parts.now n c.loop-store.ends.items) (omega arith) c.loop-store.invariant)
    (rw c.deref.ensures.value at c.in_ok-by_cell.ensures)
