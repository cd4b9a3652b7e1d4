use Rattle.post_star.proofs.Takes.{IsRowTaken}
use Rattle.post_star.proofs.take.take_row.Given as goal

abbrev pub invariant-loop-reached : goal.invariant-loop-reached
invariant-loop-reached g l = IsRowTaken l.entry l.row l.nodes.keys l.fn.items.items l.items.items l.reached-index
