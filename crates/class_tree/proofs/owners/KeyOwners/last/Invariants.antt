use Rattle.std.proofs.Common.{◌⊎◌, take}
use Rattle.class_order.specs.Spans.{Holds, HoldsAny}
use Rattle.class_tree.specs.Runs.{IsLastHeld}
use Rattle.class_tree.proofs.owners.KeyOwners.last.Given as goal

abbrev pub invariant-loop-interface : goal.invariant-loop-interface
invariant-loop-interface l = IsLastHeld (λ p. Holds l.self.united.now p ⊎ HoldsAny l.self.table.now (take l.interface-index l.self.few.now) p) l.from l.to l.last
