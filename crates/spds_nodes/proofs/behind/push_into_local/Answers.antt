use Rattle.std.proofs.Common.{◌≡◌, ◌+◌, ◌-◌, arith}
use Rattle.std.proofs.lemmas.Result.{on_ok_weaker}
use Rattle.spds_nodes.proofs.Parts.{HasCode-none, HasCode-some, IsIntoLocal-at}
use Rattle.spds_nodes.proofs.behind.push_into_local.Goals as goal

pub returns-in-Some : goal.returns-in-Some
returns-in-Some c =
    let index = c.args.node.place.index in
    let behind : index - 1 + 1 ≡ index = omega arith in
    on_ok_weaker c.push_assigned.result
    (λ added. IsIntoLocal-at c.args.linked.now c.args.node c.args.x (index - 1) _ _ behind
    (HasCode-some c.args.linked.now c.args.node.place.method (index - 1) _ c.in-Some.code.now _ _ c.in-Some.ensures.some (rw c.before-in-Some.ensures at added)))
    c.push_assigned.ensures

pub returns-in-None : goal.returns-in-None
returns-in-None c =
    let index = c.args.node.place.index in
    let behind : index - 1 + 1 ≡ index = omega arith in
    IsIntoLocal-at c.args.linked.now c.args.node c.args.x (index - 1) _ _ behind
    (HasCode-none c.args.linked.now c.args.node.place.method (index - 1) _ _ c.in-None.ensures.none)
