use Rattle.std.proofs.Common.{◌≡◌, take}
use Rattle.jim_grammar.specs.Stacks.{stacks}
use Rattle.jim_grammar.proofs.read.copies.Given as goal

abbrev pub invariant-loop-stack : goal.invariant-loop-stack
invariant-loop-stack l = stacks l.all.items ≡ stacks (take l.stack-index l.set)
