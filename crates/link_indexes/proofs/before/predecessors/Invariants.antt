use Rattle.std.proofs.Common.{take}
use Rattle.lists.specs.Filings.{items_under}
use Rattle.link_indexes.specs.Tables.{ArePredecessors}
use Rattle.link_indexes.proofs.before.predecessors.Given as goal

abbrev pub invariant-loop-at : goal.invariant-loop-at
invariant-loop-at l = ArePredecessors (take l.at l.code) (items_under l.filing)
