use Rattle.std.proofs.Common.{arith}
use Rattle.class_order.proofs.Visited.{met_more, visits_closed, within_more}
use Rattle.class_order.proofs.cycles.meet.Goals as goal

pub spread-requires-clause-steps : goal.spread-requires-clause-steps
spread-requires-clause-steps c = λ a b u. c.requires.above b a u

pub spread-requires-clause-known : goal.spread-requires-clause-known
spread-requires-clause-known c = within_more _ _ _ _ (λ a b u. c.requires.above b a u) c.requires.known (rw c.get.ensures at c.in_ok-add_all.ensures)

pub spread-requires-clause-done : goal.spread-requires-clause-done
spread-requires-clause-done c = λ i a d lt. visits_closed _ _ _ _ c.in_ok-add_all.ensures c.requires.closed i a d (omega (arith, lt, c.len-before.ensures.value))

pub returns-clause-met : goal.returns-clause-met
returns-clause-met c = met_more _ _ _ _ _ c.requires.closed (rw c.get.ensures at c.in_ok-add_all.ensures) c.in_ok-spread.ensures.reached
