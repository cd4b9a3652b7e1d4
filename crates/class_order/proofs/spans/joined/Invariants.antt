use Rattle.class_order.proofs.Spanned.{IsJoined}
use Rattle.class_order.proofs.spans.joined.Given as goal

abbrev pub invariant-loop-span : goal.invariant-loop-span
invariant-loop-span l = IsJoined l.sorted l.span-index l.joined.items l.last
