use Rattle.std.proofs.Common.{ℕ, ◌<◌, ◌⊎◌, All, Contains, length, take}
use Rattle.class_tree.proofs.weights.heaviest_last.Given as goal

abbrev pub invariant-loop-class : goal.invariant-loop-class
invariant-loop-class l = record {
  light : All (λ c. c < length l.classes) l.found.items;
  heavy : All (λ c. c < length l.classes) l.heavy.items;
  all : (c : ℕ) → Contains (take l.class-index l.order) c → Contains l.found.items c ⊎ Contains l.heavy.items c;
}
