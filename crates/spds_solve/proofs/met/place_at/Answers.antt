use Rattle.std.proofs.lemmas.Option.{unwrap_or-slice_get}
use Rattle.spds_solve.proofs.met.place_at.Goals as goal
use Rattle.spds_tables.specs.Triples.{no_place}

pub returns : goal.returns
returns c = rw (c.unwrap_or.ensures, c.call_of.ensures) (unwrap_or-slice_get c.args.calls.now c.args.mark no_place)
