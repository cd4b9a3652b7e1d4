use Rattle.std.proofs.Common.{◌≡◌, take}
use Rattle.class_order.specs.Groups.{group}
use Rattle.class_tree.specs.Turns.{HaveTurned, row_over}
use Rattle.class_tree.proofs.walk.leave.Given as goal

abbrev pub invariant-loop-own : goal.invariant-loop-own
invariant-loop-own l = record {
  above : l.above ≡ l.fn.above;
  turned : HaveTurned l.number (take l.own-index l.owns) (λ o. row_over l.fn.above (group l.initial.turns o.slot)) l.initial.turns l.turns;
}
