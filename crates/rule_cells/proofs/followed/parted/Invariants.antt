use Rattle.std.proofs.Common.{◌↔◌, ◌⊎◌, take}
use Rattle.auto_table.specs.declared.rule.Rule.{Rule}
use Rattle.lists.specs.Lists.{Has}
use Rattle.rule_cells.proofs.followed.parted.Given as goal

abbrev pub invariant-loop-i : goal.invariant-loop-i
invariant-loop-i g l = (r : Rule g.row.W.Denot) → (Has l.stay.items r ⊎ Has l.over.items r) ↔ Has (take l.i l.rules) r
