use Rattle.std.proofs.Common.{List, take}
use Rattle.auto_table.specs.declared.rule.Rule.{Rule}
use Rattle.post_star.specs.Index.{IsIndex}
use Rattle.post_star.proofs.index.Index.add_steps.Given as goal

abbrev pub invariant-loop-i : goal.invariant-loop-i
invariant-loop-i g l = (rules : List (Rule g.row.W.Denot)) → IsIndex rules (take l.filed l.steps) l.fn.self → IsIndex rules (take l.i l.steps) l.self
