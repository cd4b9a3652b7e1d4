use Rattle.post_star.specs.Works.{IsBegun}
use Rattle.post_star.specs.Systems.{rules_of}
use Rattle.post_star.proofs.rise.Rising.take_starts.Given as goal

abbrev pub invariant-loop-i : goal.invariant-loop-i
invariant-loop-i g l = IsBegun g.W.Weight.domain (rules_of l.system) l.system.starts.now l.system.steps.now l.self.table l.self.items.items l.i
