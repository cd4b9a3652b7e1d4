use Rattle.post_star.proofs.Loops.{IsWorkedAt}
use Rattle.post_star.specs.Systems.{rules_of}
use Rattle.post_star.proofs.rise.Rising.work_group.Given as goal

abbrev pub invariant-loop-rule : goal.invariant-loop-rule
invariant-loop-rule g l = IsWorkedAt g.W.Weight.domain (rules_of l.system) l.system.starts.now l.system.steps.now l.group l.fn.self.table l.self.table l.fn.self.items.items l.self.items.items l.entry l.rule-index
