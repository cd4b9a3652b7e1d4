use Rattle.auto_table.specs.declared.entry.Entry.TheVariants.{Pushed}
use Rattle.post_star.proofs.Loops.{IsWorkedRow}
use Rattle.post_star.specs.Systems.{rules_of}
use Rattle.post_star.proofs.rise.Rising.work_row.Given as goal

abbrev pub invariant-loop-reached : goal.invariant-loop-reached
invariant-loop-reached g l = IsWorkedRow g.W.Weight.domain (rules_of l.system) l.system.starts.now l.system.steps.now l.part.rules.now l.reached-items l.fn.self.table l.self.table l.fn.self.items.items l.self.items.items (Pushed l.pushed l.mark) l.parent l.reached-index
