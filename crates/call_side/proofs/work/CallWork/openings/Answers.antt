use Rattle.std.proofs.lemmas.Result.{IfOk-weaker}
use Rattle.call_side.proofs.Beginning.{words_opened}
use Rattle.call_side.proofs.work.CallWork.openings.Goals as goal

pub returns : goal.returns
returns c =
    IfOk-weaker c.openings.result _ _ (λ openings all. words_opened c.args.self.now c.saturated.result.now c.saturated.ensures openings.items all) c.openings.ensures
