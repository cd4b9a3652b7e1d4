use Rattle.std.proofs.Common.{◌≡◌}
use Rattle.site_events.specs.EventStatements.{AreShared, AreStatementsUpTo}
use Rattle.site_events.proofs.statements.add_statements.Given as goal

abbrev pub invariant-loop-index : goal.invariant-loop-index
invariant-loop-index l = record {
  statements : AreStatementsUpTo l.linked l.protocol l.method l.index l.statements.items;
  class : l.shared.class ≡ l.protocol.class;
  are : AreShared l.linked l.shared;
}
