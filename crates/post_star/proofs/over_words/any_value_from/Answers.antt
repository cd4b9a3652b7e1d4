use Rattle.std.proofs.Common.{refl, []}
use Rattle.post_star.proofs.Gathers.{table_any}
use Rattle.post_star.proofs.over_words.any_value_from.Goals as goal

pub sum_up-requires : goal.sum_up-requires
sum_up-requires g c = record { meant = c.requires.meant; from = c.requires.from; blank = c.new-sums.ensures.table; empty = c.new-sums.ensures.items }

pub returns : goal.returns
returns g c = table_any g.met.W.Weight.laws c.args.table.now c.requires.meant c.args.node c.sum_up.new.sums.table [] refl c.in_ok-sum_up.ensures.sweeping c.in_ok-sum_up.ensures.begun c.sum_at_bases.result c.sum_at_bases.ensures
