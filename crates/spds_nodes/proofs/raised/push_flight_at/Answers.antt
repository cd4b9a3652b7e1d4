use Rattle.std.proofs.lemmas.Result.{on_ok_weaker}
use Rattle.spds_nodes.specs.Into.{IsThrown}
use Rattle.link_sites.specs.Places.{before}
use Rattle.spds_nodes.proofs.Parts.{HasCode-none, HasCode-some}
use Rattle.spds_nodes.proofs.raised.push_flight_at.Goals as goal

pub returns-in-Some : goal.returns-in-Some
returns-in-Some c =
    let here = c.args.node.place in
    on_ok_weaker c.push_flight.result
    (λ added. HasCode-some c.args.linked.now here.method here.index (IsThrown c.args.linked.now c.args.node (before here.method here.index)) c.in-Some.code.now _ _
    c.in-Some.ensures.some (rw c.before-in-Some.ensures at added))
    c.push_flight.ensures

pub returns-in-None : goal.returns-in-None
returns-in-None c =
    let here = c.args.node.place in
    HasCode-none c.args.linked.now here.method here.index (IsThrown c.args.linked.now c.args.node (before here.method here.index)) _ c.in-None.ensures.none
