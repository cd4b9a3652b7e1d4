use Rattle.std.proofs.Common.{◌≡◌, length}
use Rattle.class_order.proofs.Placed.{ArePlaced}
use Rattle.class_order.proofs.places.places_of.Given as goal

abbrev pub invariant-loop-at : goal.invariant-loop-at
invariant-loop-at l = record {
  len : length l.places.items ≡ length l.below;
  placed : ArePlaced l.order l.at l.places.items;
}
