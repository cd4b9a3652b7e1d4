use Rattle.post_star.proofs.Applies.{IsBaseGone}
use Rattle.post_star.specs.Systems.{rules_of}
use Rattle.post_star.proofs.rise.Rising.pop_below.Given as goal

abbrev pub invariant-loop-step : goal.invariant-loop-step
invariant-loop-step g l = IsBaseGone g.W.Weight.domain (rules_of l.system) l.system.starts.now l.system.steps.now l.below l.fn.self.table l.self.table l.fn.self.items.items l.self.items.items l.base l.pop.from l.pop.mark l.pop.to l.reached l.step-index
