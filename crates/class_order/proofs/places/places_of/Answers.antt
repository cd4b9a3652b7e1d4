use Rattle.std.proofs.Common.{◌<◌, length, length-set, get_or, arith, ◌∙◌}
use Rattle.std.proofs.lemmas.List.Elements.{Contains-get_or}
use Rattle.std.proofs.lemmas.Option.{slice_get-get_or, slice_get_within}
use Rattle.class_order.proofs.Placed.{placed_more, places_done}
use Rattle.class_order.proofs.Searches.{settled_bound}
use Rattle.class_order.proofs.places.places_of.Goals as goal

pub overflow_cast-order : goal.overflow_cast-order
overflow_cast-order c = omega (arith, settled_bound _ _ c.requires.order.settled, c.requires.few)

pub index_mut-requires : goal.index_mut-requires
index_mut-requires c =
    let known : get_or c.args.order.now c.loop-at.at 0 < length c.args.below.now = c.requires.order.settled.within _ (Contains-get_or c.args.order.now c.loop-at.at 0 c.loop-at-test.true) in
    omega (arith, known, c.loop-at.invariant.len, c.loop-at.places.ok.0)

pub loop-at-preserved : goal.loop-at-preserved
loop-at-preserved c = record {
  len = length-set c.loop-at.places.items _ _ ∙ c.loop-at.invariant.len;
  placed = placed_more c.args.below.now c.args.order.now c.loop-at.places.items c.loop-at.at _ _ c.requires.order.settled c.loop-at.invariant.len (slice_get-get_or c.args.order.now c.loop-at.at 0 c.loop-at-test.true) (omega arith) c.loop-at.invariant.placed;
}

pub returns-clause-places : goal.returns-clause-places
returns-clause-places c = places_done _ _ _ c.loop-at.at c.requires.known c.requires.order c.loop-at.invariant.len c.loop-at-test.false c.loop-at.invariant.placed

pub returns-clause-each : goal.returns-clause-each
returns-clause-each c = λ i k e. c.loop-at.invariant.placed.placed i k (omega (arith, slice_get_within c.args.order.now i k e, c.loop-at-test.false)) e
