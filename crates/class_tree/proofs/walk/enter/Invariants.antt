use Rattle.std.proofs.Common.{Some, take}
use Rattle.class_tree.specs.Turns.{HaveTurned}
use Rattle.class_tree.proofs.walk.enter.Given as goal

abbrev pub invariant-loop-own : goal.invariant-loop-own
invariant-loop-own l = HaveTurned l.number (take l.own-index l.owns) (λ o. Some o.row) l.initial.turns l.turns
