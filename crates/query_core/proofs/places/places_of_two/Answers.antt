use Rattle.query_core.proofs.NamedPlaces.{second_missing}
use Rattle.query_core.proofs.places.places_of_two.Goals as goal

pub returns-in-Err-clause-missing : goal.returns-in-Err-clause-missing
returns-in-Err-clause-missing c =
    second_missing c.args.linked.now c.args.method.now c.args.index c.args.first.now c.args.second.now c.in_ok-first.first c.in_ok-first.ensures.ok
    c.in-Err.field-0 c.in-Err.ensures.missing
