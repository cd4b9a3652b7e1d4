use Rattle.std.proofs.Common.{◌-◌, ◌<◌, length, arith}
use Rattle.lists.proofs.Places.{slice_get-read}
use Rattle.way_find.proofs.Found.{completes_next}
use Rattle.way_find.proofs.seen.labels_to.Goals as goal

pub loop-left-smaller : goal.loop-left-smaller
loop-left-smaller g c =
    let seen = c.args.seen.now in
    let low : c.loop-left.left - 1 < length seen.backs.items = let w = c.loop-left.invariant.within in let m = c.requires.backs.as_many in let t = c.loop-left-test.true in omega arith in
    (completes_next (g.W.Ways.goes c.args.ways.now) c.args.starts.now seen.spots.keys seen.backs.items c.args.last c.loop-left.left c.loop-left.labels.items c.index-back.result.now
    c.requires.backs c.loop-left-test.true c.loop-left.invariant.within (slice_get-read seen.backs.items (c.loop-left.left - 1) c.index-back.result.now low c.index-back.ensures)
    c.loop-left.invariant.rest).1

pub loop-left-preserved : goal.loop-left-preserved
loop-left-preserved g c =
    let seen = c.args.seen.now in
    let low : c.loop-left.left - 1 < length seen.backs.items = let w = c.loop-left.invariant.within in let m = c.requires.backs.as_many in let t = c.loop-left-test.true in omega arith in
    let next =
    completes_next (g.W.Ways.goes c.args.ways.now) c.args.starts.now seen.spots.keys seen.backs.items c.args.last c.loop-left.left c.loop-left.labels.items c.index-back.result.now
    c.requires.backs c.loop-left-test.true c.loop-left.invariant.within (slice_get-read seen.backs.items (c.loop-left.left - 1) c.index-back.result.now low c.index-back.ensures)
    c.loop-left.invariant.rest in
    record {
      within = let smaller = next.1 in let w = c.loop-left.invariant.within in omega arith;
      rest = rw c.in_ok-push.ensures.items next.0;
    }
