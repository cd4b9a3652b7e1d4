use Rattle.std.proofs.Common.{◌≡◌, map, take}
use Rattle.spds_tables.specs.Making.{field_rule_of}
use Rattle.spds_tables.proofs.making.field_rules.Given as goal

abbrev pub invariant-loop-edge : goal.invariant-loop-edge
invariant-loop-edge l = l.rules.items ≡ map field_rule_of (take l.edge-index l.edges)
