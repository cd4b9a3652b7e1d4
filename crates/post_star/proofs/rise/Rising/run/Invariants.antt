use Rattle.post_star.specs.Measures.{IsWithin, scope_of, work_left}
use Rattle.post_star.specs.Works.{IsSettling}
use Rattle.post_star.specs.Systems.{rules_of}
use Rattle.post_star.proofs.rise.Rising.run.Given as goal

abbrev pub invariant-loop-item : goal.invariant-loop-item
invariant-loop-item g l = record {
  settling : IsSettling g.W.Weight.domain (rules_of l.system) l.system.starts.now l.system.steps.now l.self.table l.self.items.items;
  within : IsWithin g.W.Weight.domain (scope_of (rules_of l.system) l.system.steps.now l.fn.self.table l.fn.self.items.items) l.self.table l.self.items.items;
}

abbrev pub decreases-loop-item : goal.decreases-loop-item
decreases-loop-item g l = work_left g.W.Weight.domain (scope_of (rules_of l.system) l.system.steps.now l.fn.self.table l.fn.self.items.items) l.self.table l.self.items.items
