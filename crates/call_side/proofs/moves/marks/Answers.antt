use Rattle.std.proofs.lemmas.Result.{IfOk-weaker}
use Rattle.call_side.proofs.Moved.{marks_base}
use Rattle.call_side.proofs.moves.marks.Goals as goal

pub returns-in-Base : goal.returns-in-Base
returns-in-Base c =
    rw c.in-Base.is (IfOk-weaker c.marks_in.result _ _ (λ marks are. marks_base c.args.bases.now.steps c.steps_from.result.now c.in-Base.base marks.items c.steps_from.ensures are) c.marks_in.ensures)
