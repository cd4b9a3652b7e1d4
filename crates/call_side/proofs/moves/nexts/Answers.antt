use Rattle.std.proofs.lemmas.Result.{IfOk-weaker}
use Rattle.call_side.proofs.Moved.{nexts_base}
use Rattle.call_side.proofs.moves.nexts.Goals as goal

pub returns-in-Base : goal.returns-in-Base
returns-in-Base c =
    rw c.in-Base.is (IfOk-weaker c.belows.result _ _
    (λ entries are. nexts_base c.args.bases.now.steps c.steps_by.result.now c.in-Base.base c.args.mark c.args.table.now entries.items c.steps_by.ensures.each c.steps_by.ensures.only are) c.belows.ensures)
