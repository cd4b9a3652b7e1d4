use Rattle.std.proofs.Common.{◌<◌, ◌∙◌, length-set, get_or}
use Rattle.class_tree.proofs.StepLists.{lists_more}
use Rattle.class_tree.proofs.steps.interface_lists.Goals as goal

pub loop-class-preserved : goal.loop-class-preserved
loop-class-preserved c =
    let named : (get_or c.args.implements.now c.loop-class.class-index (0, 0)).0 < c.args.count = c.requires _ _ c.loop-class-test.true in
    rw c.in_ok-push.ensures (record {
      len = length-set _ _ _ ∙ c.loop-class.invariant.len;
      lists = lists_more _ _ c.loop-class.class-index _ c.loop-class-test.true (rw c.loop-class.invariant.len named) c.loop-class.invariant.lists;
    })
