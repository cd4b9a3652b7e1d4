use Rattle.std.proofs.Common.{arith}
use Rattle.lists.proofs.Grown.{got_longer, has_longer}
use Rattle.lists.proofs.Places.{slice_get-below}
use Rattle.way_find.proofs.Found.{closed_next, found_all, none_next}
use Rattle.way_find.proofs.search.find_goal.Goals as goal

pub loop-at-preserved : goal.loop-at-preserved
loop-at-preserved g c =
    let was = c.loop-at.invariant in
    let now = c.in_ok-go_on.ensures in
    let old = c.loop-at.seen.spots.keys in
    let new = c.go_on.new.seen.spots.keys in
    let at = c.loop-at.at in
    let from = c.key-from.result in
    let there = c.key-from.ensures in
    record {
      within = let below = slice_get-below new at from (got_longer old new now.longer at from there) in omega arith;
      backs = now.backs;
      begun = λ s has. has_longer old new now.longer s.to (was.begun s has);
      closed = closed_next old new now.longer at from there (g.W.Ways.goes c.args.ways.now) was.closed
          (λ label to goes. now.ends (record { label = label; to = to }) (rw c.as_slice.ensures.value ((c.in_ok-steps.ensures label to).1 goes)));
      none = none_next old new now.longer at from there (g.W.Ways.is_goal c.args.ways.now) was.none (λ is. let t = c.is_goal.ensures.1 is in cc (t, c.if-is_goal.false));
    }

pub returns-clause-none : goal.returns-clause-none
returns-clause-none g c labels way =
    let was = c.loop-at.invariant in
    let seen = c.loop-at.seen.spots.keys in
    let at = found_all (g.W.Ways.goes c.args.ways.now) c.args.starts.now seen was.begun
    (λ i from to label low h goes. was.closed i from to label (omega arith) h goes) way.1 in
    was.none at.0 way.0 (let below = slice_get-below seen at.0 way.0 at.1 in omega arith) at.1 way.2
