use Rattle.spds_rules.specs.declared.edge.EdgeKind.TheVariants.{Flow}
use Rattle.spds_nodes.specs.Added.{IsAdded}
use Rattle.spds_nodes.specs.Codes.{IsKindIn}
use Rattle.spds_nodes.specs.Into.{IsFrom}
use Rattle.spds_nodes.proofs.raised.push_raises.Given as goal

abbrev pub invariant-loop-kind : goal.invariant-loop-kind
invariant-loop-kind l = IsAdded (IsFrom l.place Flow l.node (IsKindIn l.fn.kinds.from l.kind)) l.fn.edges.items l.edges.items
