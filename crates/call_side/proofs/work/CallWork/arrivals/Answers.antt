use Rattle.std.proofs.lemmas.Result.{IfOk-weaker}
use Rattle.call_side.proofs.Coding.{read_has}
use Rattle.call_side.proofs.work.CallWork.arrivals.Goals as goal

pub returns : goal.returns
returns c =
    IfOk-weaker c.arrivals.result _ _ (λ nodes at n.
    let same = read_has c.args.self.now c.saturated.result.now c.saturated.ensures n in
    ((λ h. same.0 ((at n).0 h)), (λ h. (at n).1 (same.1 h)))) c.arrivals.ensures
