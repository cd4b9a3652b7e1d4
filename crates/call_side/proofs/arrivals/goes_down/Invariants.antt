use Rattle.auto_table.specs.declared.row.Linked.{Linked}
use Rattle.lists.specs.Lists.{Has}
use Rattle.post_star.proofs.Loops.{EachBefore}
use Rattle.call_side.proofs.arrivals.goes_down.Given as goal
use Rattle.weight_laws.specs.declared.reach.Reach.{Reach}

abbrev pub invariant-loop-linked : goal.invariant-loop-linked
invariant-loop-linked l = EachBefore (λ (x : Linked Reach). Has l.live.keys x.parent → ⊥) l.parents l.linked-index
