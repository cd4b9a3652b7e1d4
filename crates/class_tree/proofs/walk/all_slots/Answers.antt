use Rattle.std.proofs.Common.{◌<◌}
use Rattle.std.proofs.lemmas.List.Elements.{All-push}
use Rattle.class_tree.specs.declared.own_rows.Own.{Own}
use Rattle.class_tree.proofs.Turning.{slots_more}
use Rattle.class_tree.proofs.walk.all_slots.Goals as goal

pub loop-slot-preserved : goal.loop-slot-preserved
loop-slot-preserved c = rw c.in_ok-push.ensures.items (record {
  within = All-push (λ (o : Own). o.slot < c.args.count) c.loop-slot.owns.items (record { slot = c.loop-slot.slot; row = 0 }) c.loop-slot.invariant.within c.loop-slot-test.true;
  all = slots_more c.loop-slot.owns.items c.loop-slot.slot c.loop-slot.invariant.all;
})
