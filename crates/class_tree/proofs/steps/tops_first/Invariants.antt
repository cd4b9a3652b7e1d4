use Rattle.std.proofs.Common.{◌<◌, length, All}
use Rattle.class_tree.proofs.steps.tops_first.Given as goal

abbrev pub invariant-loop-class : goal.invariant-loop-class
invariant-loop-class l = All (λ c. c < length l.classes) l.starts.items
