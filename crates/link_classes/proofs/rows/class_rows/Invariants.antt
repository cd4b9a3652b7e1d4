use Rattle.std.proofs.Common.{take}
use Rattle.lists.specs.Lists.{Each}
use Rattle.link_rules.specs.World.{IsClassRow}
use Rattle.link_classes.specs.Seen.{seen_classes}
use Rattle.link_classes.proofs.rows.class_rows.Given as goal

abbrev pub invariant-loop-class : goal.invariant-loop-class
invariant-loop-class l = Each (IsClassRow (seen_classes l.order.classes.items)) (seen_classes (take l.class-index l.classes)) l.rows.items
