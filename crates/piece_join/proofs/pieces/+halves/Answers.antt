use Rattle.std.proofs.Common.{◌+◌, ◌++◌, arith, rules}
use Rattle.piece_join.specs.Brought.{AllAt}
use Rattle.piece_join.proofs.Joined.{all_back, all_front, become_both}
use Rattle.piece_join.proofs.pieces.+halves.Goals as goal

pub join_mut-ahead-requires-after_bounds : goal.join_mut-ahead-requires-after_bounds
join_mut-ahead-requires-after_bounds g t c κs within =
    let may = g.B.Bring.may c.args.how.now in
    let cut = c.split_at_mut-front in
    let middle = c.args.first + c.div_ceil-half.result in
    let whole : AllAt may c.args.first (cut.result.0.now ++ cut.result.1.now) = rw cut.ensures.value at c.requires.may in
    let front = all_front may c.args.first cut.result.0.now cut.result.1.now whole in
    let back = all_back may c.args.first middle cut.result.0.now cut.result.1.now (omega (arith, cut.ensures.front_len)) whole in
    search rules

pub returns-clause-ends : goal.returns-clause-ends
returns-clause-ends g t c =
    let middle = c.args.first + c.div_ceil-half.result in
    let cut = c.split_at_mut-front.ensures.front_len in
    search (rules, become_both (g.B.Bring.ends c.args.how.now) c.args.first middle)
