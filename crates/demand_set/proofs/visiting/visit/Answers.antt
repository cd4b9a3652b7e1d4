use Rattle.std.proofs.Common.{◌∙◌, Some, ap, sym}
use Rattle.std.proofs.lemmas.List.{take_all}
use Rattle.lists.specs.Lists.{AreAll}
use Rattle.demand_set.specs.Graphs.{EdgeInto}
use Rattle.demand_set.proofs.Asked.{Asks-then_none}
use Rattle.demand_set.proofs.Followed.{Grows-followed, IsFollowed-same, edges-more, into_node}
use Rattle.demand_set.proofs.Grown.{Grows-weaker}
use Rattle.demand_set.proofs.visiting.visit.Goals as goal

pub follow-requires : goal.follow-requires
follow-requires g c =
    let before = c.loop-edge.invariant in
    let items = c.deref-edge-items.result.now in
    let are : AreAll (EdgeInto (g.G.Graph.edge c.args.graph.now) c.args.node) items = rw c.deref-edge-items.ensures.value c.in_ok-into.ensures.into in
    let leads = into_node (g.G.Graph.edge c.args.graph.now) c.args.node items c.loop-edge.edge-index _ are c.loop-edge-test.true in
    record {
      to = before.grows.kept _ _ c.requires.number ∙ ap Some (sym leads);
      numbered = before.numbered;
      followed = IsFollowed-same _ _ _ _ _ _ before.same_stores before.followed;
    }

pub loop-edge-preserved : goal.loop-edge-preserved
loop-edge-preserved g c =
    let before = c.loop-edge.invariant in
    let now = c.in_ok-follow.ensures in
    record {
      same_edges = λ a k b. (λ h. (before.same_edges a k b).0 ((now.same_edges a k b).0 h), λ h. (now.same_edges a k b).1 ((before.same_edges a k b).1 h));
      same_stores = λ s. (λ h. (before.same_stores s).0 ((now.same_stores s).0 h), λ h. (now.same_stores s).1 ((before.same_stores s).1 h));
      asked = Asks-then_none _ _ _ _ before.asked now.kept;
      edges = edges-more _ _ _ _ _ _ c.loop-edge-test.true before.edges now.edges;
      grows = Grows-followed _ _ _ _ _ _ _ _ c.loop-edge-test.true before.same_stores before.grows now.grows;
      numbered = now.numbered;
      followed = IsFollowed-same _ _ _ _ _ _ (λ s. ((before.same_stores s).1, (before.same_stores s).0)) now.followed;
    }

pub returns-clause-grows : goal.returns-clause-grows
returns-clause-grows g c =
    let all = rw (take_all c.loop-edge.edge-index c.deref-edge-items.result.now c.loop-edge-test.false, c.deref-edge-items.ensures.value) at c.loop-edge.invariant.grows in
    Grows-weaker _ _ all (λ n from. (from.0, c.in_ok-into.ensures.into.each from.0 from.1, from.2))
