use Rattle.lists.specs.Lists.{Has}
use Rattle.post_star.proofs.Loops.{EachBefore}
use Rattle.spds_tables.specs.declared.numbered.Jump.{Jump}
use Rattle.spds_tables.proofs.asking.all_begun.Given as goal

abbrev pub invariant-loop-jump : goal.invariant-loop-jump
invariant-loop-jump l = EachBefore (λ (j : Jump). Has l.tables.begun j.to) l.jumps l.jump-index
