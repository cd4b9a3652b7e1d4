use Rattle.std.proofs.Common.{ℕ, ◌<◌, All, Contains}
use Rattle.class_tree.proofs.steps.add_all.Given as goal

abbrev pub invariant-loop-class : goal.invariant-loop-class
invariant-loop-class l = record {
  known : All (λ c. c < l.count) l.starts.items;
  all : (c : ℕ) → c < l.class → Contains l.starts.items c;
}
