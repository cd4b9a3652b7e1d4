use Rattle.std.proofs.Common.{◌≡◌, length}
use Rattle.site_events.specs.Events.{AreRelations}
use Rattle.site_events.proofs.events.relations_of.Given as goal

abbrev pub invariant-loop-event : goal.invariant-loop-event
invariant-loop-event l = record {
  many : length l.relations.items ≡ l.event;
  relations : AreRelations l.protocol l.relations.items;
}
