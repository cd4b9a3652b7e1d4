use Rattle.std.proofs.Common.{ℕ, ◌↔◌, take}
use Rattle.class_order.specs.Spans.{AreFilled, Holds, HoldsAny}
use Rattle.class_order.proofs.reach.gathered.Given as goal

abbrev pub invariant-loop-class : goal.invariant-loop-class
invariant-loop-class l = record {
  filled : AreFilled l.all.items;
  places : (p : ℕ) → Holds l.all.items p ↔ HoldsAny l.table (take l.class-index l.classes) p;
}
