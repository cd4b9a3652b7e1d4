use Rattle.std.proofs.Common.{take}
use Rattle.lists.specs.Lists.{Has}
use Rattle.spds_nodes.specs.Added.{IsAdded, Over}
use Rattle.spds_nodes.specs.Backs.{IsBackFromAt}
use Rattle.spds_nodes.proofs.backs.push_back_from.Given as goal

abbrev pub invariant-loop-index : goal.invariant-loop-index
invariant-loop-index l =
    IsAdded (Over (Has (take l.index-index l.statements)) (IsBackFromAt l.linked l.node l.call l.target l.var)) l.fn.edges.items l.edges.items
