use Rattle.std.proofs.Common.{take, []}
use Rattle.jim_grammar.specs.Stacks.{stacks, Takes}
use Rattle.jim_grammar.proofs.machine.takes_nothing.Given as goal

abbrev pub invariant-loop-stack : goal.invariant-loop-stack
invariant-loop-stack l = Takes (stacks (take l.stack-index l.old)) [] → ⊥
