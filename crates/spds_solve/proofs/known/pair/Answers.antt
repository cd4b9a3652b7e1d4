use Rattle.lists.specs.Lists.{Has}
use Rattle.spds_solve.specs.Known.{FitsAt, IsPairOf}
use Rattle.spds_solve.proofs.Noting.{both_ways, fits_any, pairs_same, seen_as}
use Rattle.spds_solve.proofs.known.pair.Goals as goal

pub returns-in_ok-pair_with-in-Any : goal.returns-in_ok-pair_with-in-Any
returns-in_ok-pair_with-in-Any c =
    let end = c.args.end in
    let post = c.args.post in
    let others = c.args.others.now in
    seen_as c.args.mets.now (IsPairOf end post (Has c.at_store.result.now)) (IsPairOf end post (FitsAt others post)) c.args.pending.now.keys c.pair_with.new.pending.keys
    c.in_ok-pair_with-in-Any.ensures
    (pairs_same end post (FitsAt others post) (Has c.at_store.result.now) (λ other. both_ways (fits_any others post c.in-Any.is other) (c.at_store.ensures other)))

pub pair_mark-requires-clause-mark : goal.pair_mark-requires-clause-mark
pair_mark-requires-clause-mark c = (_, c.in-Mark.is)
