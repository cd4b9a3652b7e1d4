use Rattle.auto_table.specs.Cells.{by_weight}
use Rattle.post_star.proofs.over_words.any_value.Goals as goal

pub any_value_from-requires : goal.any_value_from-requires
any_value_from-requires g c = record {
  meant = c.entries.ensures.meant;
  from = record { all = λ e n. c.entries.ensures.listed.all e (by_weight c.args.node n); used = λ e h. c.entries.ensures.listed.used e h };
}
