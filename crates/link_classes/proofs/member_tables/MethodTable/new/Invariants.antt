use Rattle.std.proofs.Common.{take}
use Rattle.lists.specs.Lists.{Each}
use Rattle.link_rules.specs.World.{IsMethodRow}
use Rattle.link_classes.specs.Seen.{seen_methods}
use Rattle.link_classes.specs.Tables.{KnowsMethods}
use Rattle.link_classes.proofs.member_tables.MethodTable.new.Given as goal

abbrev pub invariant-loop-row : goal.invariant-loop-row
invariant-loop-row l = record {
  knows : KnowsMethods l.order.all.now.texts (seen_methods (take l.row l.members)) l.keys;
  rows : Each (IsMethodRow (seen_methods l.members)) (seen_methods (take l.row l.members)) l.rows.items;
}
