use Rattle.class_order.proofs.Reached.{IsReaching}
use Rattle.class_order.proofs.reach.reach_spans.Given as goal

abbrev pub invariant-loop-class : goal.invariant-loop-class
invariant-loop-class l = IsReaching l.below l.order l.places l.class-index l.table
