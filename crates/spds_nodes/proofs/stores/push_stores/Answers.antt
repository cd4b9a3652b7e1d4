use Rattle.std.proofs.lemmas.Result.{on_ok_weaker}
use Rattle.spds_nodes.proofs.Filed.{IsFiled-empty, IsFiled-some}
use Rattle.spds_nodes.proofs.stores.push_stores.Goals as goal

pub returns-in-Some : goal.returns-in-Some
returns-in-Some c =
    on_ok_weaker c.push_stored.result
    (λ filed. IsFiled-some c.args.linked.now c.args.field c.args.place c.in-Some.code.now _ _ c.requires c.in-Some.ensures.some filed)
    c.push_stored.ensures

pub returns-in-None : goal.returns-in-None
returns-in-None c = IsFiled-empty c.args.linked.now c.args.field c.args.place _ c.requires c.in-None.ensures.none
