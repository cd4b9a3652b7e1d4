use Rattle.query_core.proofs.Refused.{if_ok}
use Rattle.refined_query.proofs.refining.refine.Goals as goal

pub returns : goal.returns
returns g c =
    let kept = rw c.deref.ensures.value at c.narrow.ensures in
    if_ok c.narrow.result _ _ kept (λ left is. (c.in_ok-kept.kept.items, c.in_ok-kept.ensures, is))
