use Rattle.std.proofs.Common.{sym, arith}
use Rattle.std.proofs.lemmas.Grind.{same_number_lists}
use Rattle.std.proofs.lemmas.Slice.Eq.{bytes_eq-Decides}
use Rattle.lists.proofs.bytes.same_bytes.Goals as goal

pub returns : goal.returns
returns c =
    sym ((bytes_eq-Decides c.args.a.now c.args.b.now).1
    (same_number_lists c.args.a.now c.args.b.now c.loop-at.invariant.long (λ k less. c.loop-at.invariant.same k (omega (arith, less, c.loop-at-test.false)))))
