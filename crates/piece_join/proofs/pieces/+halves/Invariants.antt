use Rattle.std.proofs.Common.{◌+◌, ◌*◌, length}
use Rattle.piece_join.proofs.pieces.+halves.Given as goal

abbrev pub decreases-bring_from : goal.decreases-bring_from
decreases-bring_from g l = 2 * length l.items.now

abbrev pub decreases-left : goal.decreases-left
decreases-left g l = 2 * length l.front.now + 1

abbrev pub decreases-right : goal.decreases-right
decreases-right g l = 2 * length l.back.now + 1
