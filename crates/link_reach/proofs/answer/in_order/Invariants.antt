use Rattle.lists.specs.Lists.{Has}
use Rattle.link_reach.specs.Reaches.{AreThose}
use Rattle.link_reach.proofs.answer.in_order.Given as goal

abbrev pub invariant-loop-number : goal.invariant-loop-number
invariant-loop-number l = AreThose (Has l.found) l.number l.rows.items
