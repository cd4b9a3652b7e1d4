use Rattle.std.proofs.Common.{◌<◌, length, slice_get, arith, sym, ap, ◌∙◌}
use Rattle.std.proofs.lemmas.Option.{slice_get-get_or}
use Rattle.rule_cells.proofs.Numbering.{numbers_more, numbers_none}
use Rattle.rule_cells.proofs.numbers.numbers_of.Goals as goal

pub loop-node-init : goal.loop-node-init
loop-node-init g c = rw c.in_ok-numbers.ensures.items (numbers_none g.W.Weight.domain c.args.cells.now c.args.own.now)

pub loop-node-preserved : goal.loop-node-preserved
loop-node-preserved g c =
    let own = c.args.own.now in
    let low = c.requires.within c.loop-node.node c.loop-node-test.true in
    let head = c.head_of-head.ensures in
    let many = c.requires.own in
    let below : c.head_of-head.result < length own = omega (arith, low, head, many) in
    rw c.in_ok-push.ensures.items
    (numbers_more g.W.Weight.domain c.args.cells.now own c.loop-node.node _ c.loop-node.numbers.items (ap (slice_get own) (sym head) ∙ slice_get-get_or own c.head_of-head.result 0 below)
    c.loop-node.invariant)
