use Rattle.std.proofs.Common.{◌≡◌, ◌≤◌, ◌-◌, length, IfSome}
use Rattle.class_tree.specs.Turns.{AreHere, IsBefore, TellBefore}
use Rattle.class_tree.proofs.walk.turns_by_slot.Given as goal

abbrev pub invariant-loop-at : goal.invariant-loop-at
invariant-loop-at l = record {
  within : l.at ≤ length l.order;
  len : length l.turns ≡ l.slots;
  told : TellBefore l.classes l.forest.owns l.forest.numbers.items (length l.order - l.at) l.turns;
  before : IfSome l.here (IsBefore l.forest.numbers.items (length l.order - l.at));
  here : AreHere l.classes l.forest.owns l.turns l.here;
}

abbrev pub decreases-loop-at : goal.decreases-loop-at
decreases-loop-at l = l.at
