use Rattle.post_star.proofs.Applies.{IsPushedGone}
use Rattle.post_star.specs.Systems.{rules_of}
use Rattle.post_star.proofs.rise.Rising.pop_over.Given as goal

abbrev pub invariant-loop-linked : goal.invariant-loop-linked
invariant-loop-linked g l = IsPushedGone g.W.Weight.domain (rules_of l.system) l.system.starts.now l.system.steps.now l.fn.self.table l.self.table l.fn.self.items.items l.self.items.items l.parents l.node l.fn.pop.from l.fn.pop.mark l.fn.pop.to l.fn.pop.weight l.linked-index
