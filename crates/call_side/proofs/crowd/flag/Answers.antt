use Rattle.std.proofs.Common.{◌∙◌}
use Rattle.call_side.proofs.Crowding.{pushed_same}
use Rattle.call_side.proofs.crowd.flag.Goals as goal

pub loop-flags-preserved : goal.loop-flags-preserved
loop-flags-preserved c = λ k. rw c.in_ok-push.ensures.items (pushed_same c.loop-flags.flags.items k ∙ c.loop-flags.invariant k)
