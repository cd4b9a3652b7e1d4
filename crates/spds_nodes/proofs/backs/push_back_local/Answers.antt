use Rattle.std.proofs.lemmas.Result.{on_ok_weaker}
use Rattle.spds_nodes.specs.Backs.{IsBackLocalAt, IsCallAt}
use Rattle.spds_nodes.proofs.Parts.{Over-none, Over-some}
use Rattle.spds_nodes.proofs.backs.push_back_local.Goals as goal

pub returns-in-Some : goal.returns-in-Some
returns-in-Some c =
    let n = c.args.node in
    on_ok_weaker c.push_back_at.result
    (Over-some (λ t. IsCallAt n.place.raised t n.place.index) (IsBackLocalAt c.args.linked.now n c.args.x) c.in-Some.index _ _ c.in-Some.ensures) c.push_back_at.ensures

pub returns-in-None : goal.returns-in-None
returns-in-None c =
    let n = c.args.node in
    Over-none (λ t. IsCallAt n.place.raised t n.place.index) (IsBackLocalAt c.args.linked.now n c.args.x) _ c.in-None.ensures
