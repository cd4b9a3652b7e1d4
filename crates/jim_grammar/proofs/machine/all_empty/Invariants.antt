use Rattle.std.proofs.Common.{[], vec_len}
use Rattle.jim_grammar.specs.Residuals.{Reads}
use Rattle.jim_grammar.specs.Stacks.{entries}
use Rattle.jim_grammar.proofs.machine.all_empty.Given as goal

-- the whole is empty exactly where the entries that are left are
abbrev pub invariant-loop-entry : goal.invariant-loop-entry
invariant-loop-entry l = (Reads (entries l.stack.items) [] [] → Reads (entries l.fn.stack.items) [] []) × (Reads (entries l.fn.stack.items) [] [] → Reads (entries l.stack.items) [] [])

abbrev pub decreases-loop-entry : goal.decreases-loop-entry
decreases-loop-entry l = vec_len l.stack
