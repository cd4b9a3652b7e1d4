use Rattle.std.proofs.Common.{◌≡◌, length}
use Rattle.class_tree.proofs.weights.weights_of.Given as goal

abbrev pub invariant-loop-class : goal.invariant-loop-class
invariant-loop-class l = record {
  sizes : length l.sizes.items ≡ length l.classes;
  most : length l.most.items ≡ length l.classes;
}
