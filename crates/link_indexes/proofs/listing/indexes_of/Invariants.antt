use Rattle.std.proofs.Common.{take}
use Rattle.link_indexes.specs.Facts.{IsOfKind}
use Rattle.link_indexes.specs.Rows.{AreTheIndexes}
use Rattle.link_indexes.specs.Tables.{IsAtIndex}
use Rattle.link_indexes.proofs.listing.indexes_of.Given as goal

abbrev pub invariant-loop-index : goal.invariant-loop-index
invariant-loop-index l = AreTheIndexes (IsAtIndex (IsOfKind l.kind) (take l.index l.code)) l.indexes.items
