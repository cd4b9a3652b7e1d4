use Rattle.std.proofs.Common.{take}
use Rattle.lists.specs.Lists.{Has}
use Rattle.spds_nodes.specs.Added.{IsAdded, Over}
use Rattle.spds_nodes.specs.Backs.{IsBackOf}
use Rattle.spds_nodes.proofs.backs.push_back_over.Given as goal

abbrev pub invariant-loop-target : goal.invariant-loop-target
invariant-loop-target l =
    IsAdded (Over (Has (take l.target-index l.targets)) (IsBackOf l.linked l.node l.call (Has l.positions))) l.fn.edges.items l.edges.items
