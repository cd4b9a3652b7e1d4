use Rattle.std.proofs.Common.{◌≡◌}
use Rattle.site_events.specs.EventStatements.{AreShared, AreStatementsUpTo}
use Rattle.site_events.proofs.statements.event_statements.Given as goal

abbrev pub invariant-loop-method : goal.invariant-loop-method
invariant-loop-method l = record {
  statements : AreStatementsUpTo l.linked l.protocol l.method 0 l.statements.items;
  class : l.shared.class ≡ l.protocol.class;
  are : AreShared l.linked l.shared;
}
