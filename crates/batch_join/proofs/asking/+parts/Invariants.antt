use Rattle.std.proofs.Common.{◌+◌, ◌*◌}
use Rattle.batch_join.proofs.asking.+parts.Given as goal

abbrev pub decreases-ask_part : goal.decreases-ask_part
decreases-ask_part g l = 2 * l.part.count

abbrev pub decreases-front_texts : goal.decreases-front_texts
decreases-front_texts g l = 2 * l.front.count + 1

abbrev pub decreases-back_texts : goal.decreases-back_texts
decreases-back_texts g l = 2 * l.back.count + 1
