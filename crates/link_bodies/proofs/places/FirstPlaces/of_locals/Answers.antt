use Rattle.std.proofs.Common.{◌+◌, sym, subst}
use Rattle.std.proofs.lemmas.Option.{slice_get-get_or}
use Rattle.link_bodies.specs.Places.{AreNamed}
use Rattle.link_bodies.proofs.Sorted.{all_named, named_more}
use Rattle.link_bodies.proofs.places.FirstPlaces.of_locals.Goals as goal

pub loop-place-preserved : goal.loop-place-preserved
loop-place-preserved c =
    let added = c.in_ok-add.ensures in
    subst (AreNamed c.args.locals.now (c.loop-place.place + 1)) (sym added.1)
    (named_more c.args.locals.now c.loop-place.place _ c.loop-place.places.items c.loop-place.invariant (slice_get-get_or c.args.locals.now c.loop-place.place _ c.loop-place-test.true) added.0)

pub returns : goal.returns
returns c = c.sorted.ensures c.args.locals.now (all_named c.args.locals.now c.loop-place.place c.loop-place.places.items c.loop-place-test.false c.loop-place.invariant)
