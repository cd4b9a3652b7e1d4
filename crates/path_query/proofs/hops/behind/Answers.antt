use Rattle.std.proofs.lemmas.Result.{IfOk-weaker}
use Rattle.path_query.proofs.Ways.{numbers_behind, ways_named}
use Rattle.path_query.proofs.hops.behind.Goals as goal

pub returns : goal.returns
returns c =
    IfOk-weaker c.led.result _ _
    (λ numbers tells q posed.
    let p = c.args.posed.now.linked.now in
    let d = c.args.posed.now.demand.now in
    let s = c.args.posed.now.solved.now in
    let all = c.in_ok-stores.ensures.all in
    let ways = rw c.as_slice.ensures.value at (c.in_ok-ways.ensures q posed) in
    numbers_behind p q d s posed c.args.owners.now c.args.field c.in_ok-stores.stores.items all c.in_ok-ways.ways.items ways numbers.items
    (tells q posed (ways_named p q d s posed c.args.owners.now c.args.field c.in_ok-stores.stores.items all c.in_ok-ways.ways.items ways)))
    (rw c.as_slice-2.ensures.value at c.led.ensures)
