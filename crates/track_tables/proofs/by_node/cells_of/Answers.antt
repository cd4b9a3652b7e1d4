use Rattle.std.proofs.Common.{arith}
use Rattle.call_side.proofs.Gathered.{gathered_all, gathered_more}
use Rattle.track_tables.specs.ByNode.{IsCellOf}
use Rattle.track_tables.proofs.ByNode.{cells_all}
use Rattle.track_tables.proofs.by_node.cells_of.Goals as goal

pub loop-entry-preserved : goal.loop-entry-preserved
loop-entry-preserved c =
    gathered_more (IsCellOf c.args.table.now) c.entries-entries.result.now c.loop-entry.entry-index _ _ _ (omega arith) c.loop-entry.invariant c.in_ok-add_row.ensures

pub returns : goal.returns
returns c = record {
  meant = c.entries-entries.ensures.meant;
  cells = cells_all c.args.table.now c.entries-entries.result.now c.loop-entry.cells.items c.entries-entries.ensures.listed
      (gathered_all (IsCellOf c.args.table.now) c.entries-entries.result.now c.loop-entry.entry-index c.loop-entry.cells.items (omega arith) c.loop-entry.invariant);
}
