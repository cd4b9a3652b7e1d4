use Rattle.std.proofs.Common.{◌<◌}
use Rattle.spds_nodes.specs.Added.{IsAdded, Over}
use Rattle.spds_nodes.specs.Starts.{IsBeforeIn}
use Rattle.spds_nodes.proofs.starts.push_before_all.Given as goal

abbrev pub invariant-loop-method : goal.invariant-loop-method
invariant-loop-method l = IsAdded (Over (λ m. m < l.method) (IsBeforeIn l.linked l.var)) l.fn.nodes.items l.nodes.items
