use Rattle.std.proofs.lemmas.Result.{IfOk-weaker}
use Rattle.call_side.proofs.Moved.{parents_all}
use Rattle.call_side.proofs.moves.parents.Goals as goal

pub returns : goal.returns
returns c = IfOk-weaker c.parents_in.result _ _ (λ entries are. parents_all c.args.table.now c.args.entry c.parents.result.now entries.items c.parents.ensures.each are) c.parents_in.ensures
