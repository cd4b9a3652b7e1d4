use Rattle.link_reach.specs.Reaches.{AreThose, IsStarted}
use Rattle.link_reach.proofs.answer.started.Given as goal

abbrev pub invariant-loop-number : goal.invariant-loop-number
invariant-loop-number l = AreThose (IsStarted l.classes.world l.asked) l.number l.started.items
