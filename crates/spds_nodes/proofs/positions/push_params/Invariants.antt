use Rattle.std.proofs.Common.{◌<◌}
use Rattle.spds_nodes.specs.Added.{IsAdded, Over}
use Rattle.spds_nodes.specs.Backs.{IsParamAt}
use Rattle.spds_nodes.proofs.positions.push_params.Given as goal

abbrev pub invariant-loop-number : goal.invariant-loop-number
invariant-loop-number l = IsAdded (Over (λ i. i < l.number) (IsParamAt l.args l.x)) l.fn.positions.items l.positions.items
