use Rattle.class_tree.specs.Defaults.{AreDefaults}
use Rattle.class_tree.proofs.Lowest.{IsDefaultOf}
use Rattle.class_tree.proofs.tree.Tree.defaults.Given as goal

abbrev pub invariant-loop-interface : goal.invariant-loop-interface
invariant-loop-interface l = AreDefaults (IsDefaultOf l.self l.class l.key l.reached l.interface-index) l.found
