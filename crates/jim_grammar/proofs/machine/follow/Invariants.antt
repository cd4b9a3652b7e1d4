use Rattle.std.proofs.Common.{List, vec_len}
use Rattle.jim_grammar.specs.Expressions.{Re}
use Rattle.jim_grammar.specs.Stacks.{entries, stacks, Follows}
use Rattle.jim_grammar.proofs.machine.follow.Given as goal

-- what the entries that are left bring makes up the whole
abbrev pub invariant-loop-entry : goal.invariant-loop-entry
invariant-loop-entry l = (new : List (List Re)) → Follows l.lead (entries l.stack.items) (stacks l.out.items) new → Follows l.lead (entries l.fn.stack.items) (stacks l.fn.out.items) new

abbrev pub decreases-loop-entry : goal.decreases-loop-entry
decreases-loop-entry l = vec_len l.stack
