use Rattle.lists.proofs.Places.{slice_get-read}
use Rattle.way_find.proofs.Found.{begun_next}
use Rattle.way_find.proofs.search.begin.Goals as goal

pub loop-start-preserved : goal.loop-start-preserved
loop-start-preserved g c = record {
  begun = begun_next c.args.starts.now c.loop-start.start-index c.start-item.result c.loop-start.seen.spots.keys c.reach.new.seen.spots.keys c.in_ok-reach.field-0
      (slice_get-read c.args.starts.now c.loop-start.start-index c.start-item.result c.loop-start-test.true c.start-item.is) c.in_ok-reach.ensures.longer
      c.loop-start.invariant.begun c.in_ok-reach.ensures.here;
  backs = c.in_ok-reach.ensures.backs;
}
