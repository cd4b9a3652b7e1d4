use Rattle.lists.specs.Lists.{Has}
use Rattle.spds_solve.specs.Known.{FitsAt, IsPairOf}
use Rattle.spds_solve.proofs.Noting.{either_ways, fits_mark, pairs_both, seen_both}
use Rattle.spds_solve.proofs.known.pair_mark.Goals as goal

pub returns : goal.returns
returns c =
    let end = c.args.end in
    let post = c.args.post in
    let others = c.args.others.now in
    let mark = c.requires.mark in
    seen_both c.args.mets.now (IsPairOf end post (Has c.with_head.result.now)) (IsPairOf end post (Has c.with_head-2.result.now)) (IsPairOf end post (FitsAt others post))
    c.args.pending.now.keys c.pair_with.new.pending.keys c.pair_with-2.new.pending.keys c.in_ok-pair_with.ensures c.in_ok-pair_with-2.ensures
    (pairs_both end post (Has c.with_head.result.now) (Has c.with_head-2.result.now) (FitsAt others post)
    (λ other. either_ways (fits_mark others post mark.0 mark.1 other) (c.with_head.ensures other) (c.with_head-2.ensures other)))
