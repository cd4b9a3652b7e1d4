use Rattle.std.proofs.Common.{◌≡◌, ℕ, ◌↔◌, length, take, Contains}
use Rattle.class_order.specs.Tables.{Under}
use Rattle.class_tree.proofs.steps.implementers.Given as goal

abbrev pub invariant-loop-class : goal.invariant-loop-class
invariant-loop-class l = record {
  len : length l.lists ≡ l.count;
  steps : (a b : ℕ) → Under l.lists a b ↔ Contains (take l.class-index l.implements) (a, b);
}
