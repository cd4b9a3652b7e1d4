use Rattle.std.proofs.Common.{◌≡◌, List, Some, None, slice_get, sym, ◌∙◌, subst, inl, inr, arith}
use Rattle.demand_set.specs.declared.numbered.EdgeAt.{EdgeAt}
use Rattle.lists.specs.Lists.{Has}
use Rattle.track_tables.specs.Making.{IsBackAmong, IsEdgeOf}
use Rattle.track_tables.proofs.Backward.{of_more, of_wider}
use Rattle.track_tables.proofs.Going.{back_more, onward_more}
use Rattle.track_tables.proofs.Growing.{grown_more, grown_same, past_all}
use Rattle.track_tables.proofs.rules.spread.Goals as goal

pub loop-node-init : goal.loop-node-init
loop-node-init c = record {
  grown = grown_same c.args.growth.now;
  each = λ k q a events r has. inl has;
  onward = λ k q a events number e is. absurd (let none = is.1 in omega arith);
  back = λ k q a events r has is. absurd (let none = is.1 in omega arith);
}

pub loop-node-preserved : goal.loop-node-preserved
loop-node-preserved c =
    let p = c.args.given.now.linked.now in
    let nodes = c.args.given.now.demand.now.nodes in
    let parts = c.args.given.now.parts.now in
    let was = c.loop-node.invariant in
    let first = c.args.growth.now in
    let old = c.loop-node.growth in
    let over = c.go_back.new.growth in
    let on = c.add_edges.new.growth in
    let new = c.come_back.new.growth in
    let node = c.in-Some.node in
    let back = c.in_ok-go_back.ensures in
    let edges = c.in_ok-add_edges.ensures in
    let come = c.in_ok-come_back.ensures in
    let is = c.onward.ensures in
    let there : slice_get old.reached.keys c.loop-node.at ≡ Some node = sym c.in-Some.ensures.value in
    record {
      grown = grown_more first old new was.grown (grown_more old over new back.grown (grown_more over on new edges.grown come.grown));
      each = λ k q a events.
          let more = of_more p k q a nodes parts.calls (IsEdgeOf parts) in
          let wider = of_wider p k q a nodes parts.calls (IsBackAmong parts.returns) (IsEdgeOf parts) in
          let onward = of_wider p k q a nodes parts.calls (Has c.onward.result.now) (IsEdgeOf parts) over.work.rules on.work.rules
          (λ e has. inl (node, subst (λ (es : List EdgeAt). Has es e) is has)) (edges.each k q a events) in
          more first.work.rules on.work.rules new.work.rules
          (more first.work.rules over.work.rules on.work.rules
          (more first.work.rules old.work.rules over.work.rules (was.each k q a events) (wider old.work.rules over.work.rules (λ e has. inr has) (back.each k q a events)))
          onward) (wider on.work.rules new.work.rules (λ e has. inr has) (come.each k q a events));
      onward = λ k q a events.
          onward_more p k q a nodes parts old over on new c.loop-node.at node c.len-seen.result back.grown edges.grown come.grown there c.len-seen.ensures.value
          (λ e has. edges.taken k q a events e (subst (λ (es : List EdgeAt). Has es e) (sym is) has)) (was.onward k q a events);
      back = λ k q a events.
          back_more p k q a nodes parts old over on new c.loop-node.at node c.len-seen.result back.grown edges.grown come.grown there c.len-seen.ensures.value
          (back.taken k q a events) (come.taken k q a events) (was.back k q a events);
    }

pub returns-clause-onward : goal.returns-clause-onward
returns-clause-onward c k q a events number e reached has =
    let keys = c.loop-node.growth.reached.keys in
    let none : slice_get keys c.loop-node.at ≡ None = sym c.reached_at.ensures.value ∙ c.in_default.is in
    c.loop-node.invariant.onward k q a events number e (past_all keys c.loop-node.at number none reached) has

pub returns-clause-back : goal.returns-clause-back
returns-clause-back c k q a events r has reached =
    let keys = c.loop-node.growth.reached.keys in
    let none : slice_get keys c.loop-node.at ≡ None = sym c.reached_at.ensures.value ∙ c.in_default.is in
    c.loop-node.invariant.back k q a events r has (past_all keys c.loop-node.at r.edge.from none reached)
