use Rattle.number_sets.proofs.Marks.{marked_none}
use Rattle.number_sets.proofs.marked.MarkedSet.new.Goals as goal

pub invariant_of-result : goal.invariant_of-result
invariant_of-result c = rw (c.new.ensures.items, c.new-2.ensures.items) marked_none
