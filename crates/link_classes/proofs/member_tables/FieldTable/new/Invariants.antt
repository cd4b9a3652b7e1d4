use Rattle.std.proofs.Common.{take}
use Rattle.lists.specs.Lists.{Each}
use Rattle.link_rules.specs.World.{IsFieldRow}
use Rattle.link_classes.specs.Seen.{seen_fields}
use Rattle.link_classes.specs.Tables.{KnowsFields}
use Rattle.link_classes.proofs.member_tables.FieldTable.new.Given as goal

abbrev pub invariant-loop-row : goal.invariant-loop-row
invariant-loop-row l = record {
  knows : KnowsFields l.order.all.now.texts (seen_fields (take l.row l.members)) l.keys;
  rows : Each (IsFieldRow (seen_fields l.members)) (seen_fields (take l.row l.members)) l.rows.items;
}
