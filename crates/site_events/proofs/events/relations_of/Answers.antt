use Rattle.std.proofs.Common.{[], ◌∷◌, length-append, arith}
use Rattle.site_events.proofs.Used.{relations_more}
use Rattle.site_events.proofs.events.relations_of.Goals as goal

pub loop-event-preserved : goal.loop-event-preserved
loop-event-preserved c =
    rw c.in_ok-push.ensures.items
    (record {
      many = omega (arith, c.loop-event.invariant.many, length-append c.loop-event.relations.items (c.event_relation.result ∷ []));
      relations = relations_more c.args.protocol.now c.loop-event.relations.items c.loop-event.event c.event_relation.result c.loop-event.invariant.many
          c.loop-event.invariant.relations c.event_relation.ensures;
    })
