use Rattle.std.proofs.Common.{take}
use Rattle.class_tree.proofs.Owned.{IsSoleOf}
use Rattle.class_tree.proofs.owners.KeyOwners.sole.Given as goal

abbrev pub invariant-loop-interface : goal.invariant-loop-interface
invariant-loop-interface l = IsSoleOf l.self.table.now (take l.interface-index l.self.few.now) l.place l.sole
