use Rattle.std.proofs.Common.{take}
use Rattle.lists.proofs.Grouped.{IsNumberedAll-adds}
use Rattle.lists.proofs.Places.{slice_get-read, take-next}
use Rattle.lists.proofs.groups.number_all.Goals as goal

pub loop-keyed-preserved : goal.loop-keyed-preserved
loop-keyed-preserved g c =
    let items = c.args.items.now in
    let i = c.loop-keyed.keyed-index in
    let p = c.keyed-item.result in
    let there = slice_get-read items i p c.loop-keyed-test.true c.keyed-item.is in
    rw (take-next items i p there, c.in_ok-push.ensures.items)
    (IsNumberedAll-adds g.K.PartialEq.eq g.met.K.Eq.laws g.met.K.Key.same (take i items) c.loop-keyed.numbers.keys c.loop-keyed.pairs.items c.loop-keyed.invariant p c.in_ok-number.number c.add.new.self.keys c.in_ok-number.ensures.number c.in_ok-number.ensures.keys)
