use Rattle.std.proofs.Common.{length}
use Rattle.batch_lines.proofs.Marked.{IsLeft}
use Rattle.batch_lines.proofs.cutting.cut_at.Given as goal

abbrev pub invariant-loop-line : goal.invariant-loop-line
invariant-loop-line l = IsLeft l.mark l.text l.left l.at

abbrev pub decreases-loop-line : goal.decreases-loop-line
decreases-loop-line l = length l.left
