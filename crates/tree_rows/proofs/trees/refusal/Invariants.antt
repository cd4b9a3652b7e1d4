use Rattle.std.proofs.Common.{◌<◌, length, take, All}
use Rattle.tree_rows.proofs.trees.refusal.Given as goal

abbrev pub invariant-loop-class : goal.invariant-loop-class
invariant-loop-class l = All (λ p. p.0 < length l.classes) (take l.class-index l.implements)
