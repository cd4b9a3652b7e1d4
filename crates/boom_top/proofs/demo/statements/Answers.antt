use Rattle.std.proofs.Common.{◌≡◌, ◌+◌, length, arith, ap}
use Rattle.lists.proofs.Places.{slice_get-there}
use Rattle.boom_top.proofs.Counted.{sum_by-more}
use Rattle.boom_top.proofs.demo.statements.Goals as goal

pub loop-method-preserved : goal.loop-method-preserved
loop-method-preserved c =
    let there = slice_get-there c.args.linked.now.methods c.loop-method.method (omega arith) in
    let more = sum_by-more (λ m. length m.code) c.args.linked.now.methods c.loop-method.method there.0 there.1 in
    let code = c.code.ensures there.0 there.1 in
    let counted = ap length code in
    let invariant = c.loop-method.invariant in
    let sum : c.in_ok-count.count ≡ c.loop-method.count + length c.code.result.now = grind arith in
    omega (arith, more, counted, invariant, sum)
