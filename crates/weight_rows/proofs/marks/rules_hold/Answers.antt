use Rattle.std.proofs.Common.{rules}
use Rattle.weight_rows.proofs.marks.rules_hold.Goals as goal

pub split_rules-requires-clause-fits : goal.split_rules-requires-clause-fits
split_rules-requires-clause-fits c = rw c.marks.ensures.nodes (search rules)

pub split_rules-requires-clause-below : goal.split_rules-requires-clause-below
split_rules-requires-clause-below c = rw c.marks.ensures.nodes c.two_calls.ensures
