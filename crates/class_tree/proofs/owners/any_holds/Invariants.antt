use Rattle.std.proofs.Common.{take}
use Rattle.class_order.specs.Spans.{HoldsAny}
use Rattle.class_tree.proofs.owners.any_holds.Given as goal

abbrev pub invariant-loop-class : goal.invariant-loop-class
invariant-loop-class l = HoldsAny l.table (take l.class-index l.classes) l.place → ⊥
