use Rattle.std.proofs.Common.{inr, refl}
use Rattle.lists.proofs.Places.{slice_get-below, slice_get-read}
use Rattle.lists.proofs.Grown.{got_longer, longer_more}
use Rattle.way_find.proofs.Found.{begun_next}
use Rattle.way_find.proofs.search.go_on.Goals as goal

pub reach-requires-clause-back : goal.reach-requires-clause-back
reach-requires-clause-back g c =
    let from = c.requires.steps.0 in
    let was = c.loop-step.invariant in
    let mid = c.loop-step.seen.spots.keys in
    let there = got_longer c.args.seen.now.spots.keys mid was.longer c.args.at from c.requires.steps.1 in
    inr (record {
      at = c.args.at;
      number = refl;
      earlier = slice_get-below mid c.args.at from there;
      from = from;
      from_is = there;
      goes = c.requires.steps.2 c.step-item.result
          (c.loop-step.step-index, slice_get-read c.args.steps.now c.loop-step.step-index c.step-item.result c.loop-step-test.true c.step-item.is);
    })

pub loop-step-preserved : goal.loop-step-preserved
loop-step-preserved g c = record {
  ends = begun_next c.args.steps.now c.loop-step.step-index c.step-item.result c.loop-step.seen.spots.keys c.reach.new.seen.spots.keys c.in_ok-reach.field-0
      (slice_get-read c.args.steps.now c.loop-step.step-index c.step-item.result c.loop-step-test.true c.step-item.is) c.in_ok-reach.ensures.longer
      c.loop-step.invariant.ends c.in_ok-reach.ensures.here;
  longer = longer_more c.args.seen.now.spots.keys c.loop-step.seen.spots.keys c.reach.new.seen.spots.keys c.loop-step.invariant.longer c.in_ok-reach.ensures.longer;
  backs = c.in_ok-reach.ensures.backs;
}
