use Rattle.std.proofs.Common.{take}
use Rattle.class_order.specs.Tables.{Visits}
use Rattle.class_order.proofs.walks.add_all.Given as goal

abbrev pub invariant-loop-class : goal.invariant-loop-class
invariant-loop-class l = Visits (take l.class-index l.classes) l.initial.reached l.reached
