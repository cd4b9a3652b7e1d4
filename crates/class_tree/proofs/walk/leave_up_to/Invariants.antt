use Rattle.std.proofs.Common.{◌≡◌, length, IfSome}
use Rattle.class_tree.specs.Turns.{AreHere, IsBefore, TellBefore}
use Rattle.class_tree.proofs.Walking.{steps_left}
use Rattle.class_tree.proofs.walk.leave_up_to.Given as goal

abbrev pub invariant-loop-at : goal.invariant-loop-at
invariant-loop-at l = record {
  len : length l.turns ≡ length l.initial.turns;
  told : TellBefore l.classes l.forest.owns l.forest.numbers.items l.number l.turns;
  before : IfSome l.at (IsBefore l.forest.numbers.items l.number);
  here : AreHere l.classes l.forest.owns l.turns l.at;
}

abbrev pub decreases-loop-at : goal.decreases-loop-at
decreases-loop-at l = steps_left l.forest.numbers.items l.at
