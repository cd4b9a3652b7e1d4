use Rattle.std.proofs.Common.{length}
use Rattle.batch_lines.proofs.Spelled.{IsRead}
use Rattle.batch_lines.proofs.queries.read_queries.Given as goal

abbrev pub invariant-loop-left : goal.invariant-loop-left
invariant-loop-left l = IsRead l.text l.left l.queries.items

abbrev pub decreases-loop-left : goal.decreases-loop-left
decreases-loop-left l = length l.left
