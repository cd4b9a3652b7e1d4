use Rattle.track_tables.specs.Making.{IsBackAmong}
use Rattle.std.proofs.lemmas.Result.{on_ok_weaker}
use Rattle.track_tables.proofs.Backward.{of_wider}
use Rattle.track_tables.proofs.coming.go_back.Goals as goal

pub returns-then-returns-len-clause-each : goal.returns-then-returns-len-clause-each
returns-then-returns-len-clause-each c =
    let p = c.args.given.now.linked.now in
    let nodes = c.args.given.now.demand.now.nodes in
    let parts = c.args.given.now.parts.now in
    let among = rw c.returns.ensures at c.from_node-returns.ensures in
    on_ok_weaker c.add_back.result (λ each k q a events. of_wider p k q a nodes parts.calls (IsBackAmong c.from_node-returns.result.now) (IsBackAmong parts.returns)
    c.args.growth.now.work.rules c.add_back.new.growth.work.rules (λ e r. (r.0, ((among r.0).0 r.1).0, r.2)) (each k q a events)) c.add_back.ensures.each

pub returns-then-returns-len-clause-taken : goal.returns-then-returns-len-clause-taken
returns-then-returns-len-clause-taken c =
    let among = rw c.returns.ensures at c.from_node-returns.ensures in
    on_ok_weaker c.add_back.result (λ taken k q a events r has from is. taken k q a events r ((among r).1 (has, from)) is) c.add_back.ensures.taken
