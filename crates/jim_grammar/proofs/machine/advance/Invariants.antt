use Rattle.std.proofs.Common.{take}
use Rattle.jim_grammar.specs.Stacks.{stacks, Advances}
use Rattle.jim_grammar.proofs.machine.advance.Given as goal

abbrev pub invariant-loop-stack : goal.invariant-loop-stack
invariant-loop-stack l = Advances l.lead (stacks (take l.stack-index l.old)) (stacks l.new.items)
