use Rattle.std.proofs.Common.{◌<◌, length, inl, arith}
use Rattle.std.proofs.lemmas.List.{take_all}
use Rattle.track_tables.specs.Making.{IsRuleOf, IsTaken}
use Rattle.track_tables.proofs.Growing.{grown_more, grown_same}
use Rattle.track_tables.proofs.Taken.{all_more, each_more, taken_kept}
use Rattle.track_tables.proofs.rules.add_edges.Goals as goal

pub loop-edge-init : goal.loop-edge-init
loop-edge-init c = record { grown = grown_same c.args.growth.now; each = λ k q a events r has. inl has; taken = λ k q a events e has. cc has.1 }

pub loop-edge-preserved : goal.loop-edge-preserved
loop-edge-preserved c =
    let p = c.args.given.now.linked.now in
    let nodes = c.args.given.now.demand.now.nodes in
    let calls = c.args.given.now.parts.now.calls in
    let edges = c.args.edges.now in
    let index = c.loop-edge.edge-index in
    let was = c.loop-edge.invariant in
    let now = c.in_ok-add_edge.ensures in
    let below : index < length edges = omega arith in
    record {
      grown = grown_more c.args.growth.now c.loop-edge.growth c.add_edge.new.growth was.grown now.grown;
      each = λ k q a events. each_more edges index below (IsRuleOf p k q a nodes calls) c.args.growth.now.work.rules c.loop-edge.growth.work.rules c.add_edge.new.growth.work.rules
          (was.each k q a events) (now.each k q a events);
      taken = λ k q a events. all_more edges index below (λ e. IsTaken p k q a nodes calls e c.add_edge.new.growth.work.rules)
          (λ e has. taken_kept p k q a nodes calls e c.loop-edge.growth.work.rules c.add_edge.new.growth.work.rules now.grown.rules (was.taken k q a events e has))
          (now.taken k q a events);
    }

pub returns-clause-each : goal.returns-clause-each
returns-clause-each c = let all = take_all c.loop-edge.edge-index c.args.edges.now (omega arith) in rw all at c.loop-edge.invariant.each

pub returns-clause-taken : goal.returns-clause-taken
returns-clause-taken c = let all = take_all c.loop-edge.edge-index c.args.edges.now (omega arith) in rw all at c.loop-edge.invariant.taken
