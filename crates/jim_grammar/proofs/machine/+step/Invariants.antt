use Rattle.std.proofs.Common.{◌+◌, ◌*◌, map}
use Rattle.jim_grammar.specs.Items.{re}
use Rattle.jim_grammar.specs.Stacks.{re_entry, size, total}
use Rattle.jim_grammar.proofs.machine.+step.Given as goal

abbrev pub decreases-any : goal.decreases-any
decreases-any l = 3 * total (λ e. 1 + size e) (map re l.items.now)

abbrev pub decreases-over : goal.decreases-over
decreases-over l = 3 * size (re l.item) + 2

abbrev pub decreases-step : goal.decreases-step
decreases-step l = 3 * size (re_entry l.entry) + 1

abbrev pub decreases-sequence : goal.decreases-sequence
decreases-sequence l = 3 * size (re_entry l.entry)
