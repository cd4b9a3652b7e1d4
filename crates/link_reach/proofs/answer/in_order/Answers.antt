use Rattle.lists.specs.Lists.{Has}
use Rattle.link_reach.proofs.Finding.{has_if, has_not}
use Rattle.link_reach.proofs.Ordering.{those_more, those_same}
use Rattle.link_reach.proofs.answer.in_order.Goals as goal
use Rattle.link_reach.proofs.answer.in_order.Goals.{then-contains+in_ok-push, else-contains}

pub loop-number-preserved : goal.loop-number-preserved
loop-number-preserved c = elim c.if-contains.branch [
  | then-contains+in_ok-push w ↦
      let more = those_more (Has c.args.found.now) c.loop-number.number c.loop-number.rows.items c.loop-number.invariant
      (has_if c.args.found.now c.loop-number.number c.contains.result c.contains.ensures w.if-contains.true) in
      rw (w.rows-is, w.in_ok-push.ensures.items) more
  | else-contains w ↦
      let same = those_same (Has c.args.found.now) c.loop-number.number c.loop-number.rows.items c.loop-number.invariant
      (has_not c.args.found.now c.loop-number.number c.contains.result c.contains.ensures w.if-contains.false) in
      rw w.rows-is same
]
