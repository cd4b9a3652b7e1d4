use Rattle.std.proofs.Common.{take}
use Rattle.lists.specs.Lists.{Has}
use Rattle.spds_nodes.specs.Added.{IsAdded, Over}
use Rattle.spds_nodes.specs.Backs.{IsBackAs}
use Rattle.spds_nodes.proofs.backs.push_back_in.Given as goal

abbrev pub invariant-loop-position : goal.invariant-loop-position
invariant-loop-position l =
    IsAdded (Over (Has (take l.position-index l.positions)) (IsBackAs l.linked l.node l.call l.target)) l.fn.edges.items l.edges.items
