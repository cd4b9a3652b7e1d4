use Rattle.std.proofs.Common.{refl, sym, true≢false, arith}
use Rattle.call_side.proofs.Arriving.{parent_found, parents_more, parents_none}
use Rattle.call_side.proofs.arrivals.goes_down.Goals as goal

pub loop-linked-init : goal.loop-linked-init
loop-linked-init c = λ i x h at. absurd (omega arith)

pub loop-linked-preserved : goal.loop-linked-preserved
loop-linked-preserved c =
    parents_more c.args.live.now.keys c.parents-parents.result.now c.loop-linked.linked-index _ c.contains.result c.loop-linked-test.true c.contains.ensures c.if-contains.false c.loop-linked.invariant

pub returns-then-contains : goal.returns-then-contains
returns-then-contains c =
    rw c.in-Pushed.is (
      (λ _. parent_found c.args.table.now c.in-Pushed.node c.in-Pushed.mark c.args.live.now.keys c.parents-parents.result.now (rw c.in-Pushed.is at c.parents-parents.ensures.each)
          c.loop-linked.linked-index _ c.contains.result c.loop-linked-test.true c.contains.ensures c.if-contains.true),
      (λ _. refl),
    )

pub returns-after-loop-linked : goal.returns-after-loop-linked
returns-after-loop-linked c =
    rw c.in-Pushed.is (
      (λ h. absurd (true≢false (sym h))),
      (λ down. absurd (parents_none c.args.table.now c.in-Pushed.node c.in-Pushed.mark c.args.live.now.keys c.parents-parents.result.now (rw c.in-Pushed.is at c.parents-parents.ensures.each)
          c.loop-linked.linked-index c.loop-linked-test.false c.loop-linked.invariant down)),
    )
