use Rattle.std.proofs.Common.{take}
use Rattle.call_side.specs.Gathered.{AreGathered}
use Rattle.spds_tables.specs.Making.{IsCallRuleOf}
use Rattle.spds_tables.proofs.making.call_rules.Given as goal

abbrev pub invariant-loop-edge : goal.invariant-loop-edge
invariant-loop-edge l = AreGathered (IsCallRuleOf l.calls) (take l.edge-index l.edges) l.rules.items
