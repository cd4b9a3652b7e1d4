use Rattle.std.proofs.Common.{take}
use Rattle.link_program.specs.Classes.{AreClasses, classes_in}
use Rattle.link_rules.specs.Linked.{IsLinkedClass}
use Rattle.lists.specs.Lists.{Each}
use Rattle.jim_link.proofs.members.class_table.Given as goal

abbrev pub invariant-loop-number : goal.invariant-loop-number
invariant-loop-number l = record {
  are : AreClasses l.table;
  each : Each IsLinkedClass (take l.number l.classes.world.classes) (classes_in l.table);
}
