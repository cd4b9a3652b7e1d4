use Rattle.query_core.proofs.NamedPlaces.{place_there}
use Rattle.boom_top.proofs.places.named.Goals as goal

pub unreachable-requires : goal.unreachable-requires
unreachable-requires c =
    place_there c.args.linked.now c.args.method.now c.args.index c.args.local.now c.requires.0 c.requires.1 c.in-Err.field-0 c.in-Err.ensures.missing
