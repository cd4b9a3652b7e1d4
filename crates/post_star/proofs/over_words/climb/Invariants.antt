use Rattle.auto_table.specs.declared.entry.Entry.TheVariants.{Pushed}
use Rattle.post_star.proofs.Sweeping.{IsGoneUp}
use Rattle.post_star.proofs.over_words.climb.Given as goal

abbrev pub invariant-loop-linked : goal.invariant-loop-linked
invariant-loop-linked g l = IsGoneUp g.W.Weight.domain l.table l.node (Pushed l.fn.pushed l.fn.mark) l.parents l.so_far l.fn.sums.table l.sums.table l.fn.sums.items.items l.sums.items.items l.linked-index
