use Rattle.std.proofs.Common.{◌↔◌, take}
use Rattle.auto_table.specs.declared.rule.Rule.{Rule}
use Rattle.lists.specs.Lists.{Has}
use Rattle.rule_cells.specs.Distinct.{AreShapes}
use Rattle.rule_cells.proofs.distinct.distinct.Given as goal

abbrev pub invariant-loop-i : goal.invariant-loop-i
invariant-loop-i g l = record {
  shapes : AreShapes g.W.Weight.domain l.shapes.keys l.few.items;
  rules : (r : Rule g.row.W.Denot) → Has l.few.items r ↔ Has (take l.i l.rules) r;
}
