use Rattle.std.proofs.Common.{◌+◌, ◌<◌, length, Ok, Err, inl, inr, arith}
use Rattle.std.specs.Result.{OnErr}
use Rattle.std.specs.declared.result.Result.{Result}
use Rattle.spds_rules.specs.Demand.{Demanded}
use Rattle.demand_set.specs.Walks.{AsksFew}
use Rattle.demand_set.proofs.Asked.{Asks-none, Asks-take_more, Asks-then_none, AsksFew-take}
use Rattle.demand_set.proofs.Followed.{IsFollowed-same}
use Rattle.demand_set.proofs.Grown.{length-grows, take-kept}
use Rattle.demand_set.proofs.EdgesAt.{AreEdgesAt-none}
use Rattle.demand_set.proofs.Searched.{IsSearched-none, IsSearched-visited}
use Rattle.demand_set.proofs.searching.search.Goals as goal

on_err : {T E P : Type 0} (r : Result T E) → P → OnErr r P
on_err (Ok x) p = tt
on_err (Err e) p = p

pub loop-at-init : goal.loop-at-init
loop-at-init g c = record {
  same_edges = λ a k b. (λ h. h, λ h. h);
  same_stores = λ s. (λ h. h, λ h. h);
  asked = Asks-none _;
  searched = IsSearched-none _ _ _ _ _ _ _ _ c.requires.nodes c.requires.edges c.requires.fields c.requires.stores c.in_ok-add_all.ensures.grows c.in_ok-add_all.ensures.all;
  numbered = AreEdgesAt-none _ _ _ c.requires.edges c.requires.numbered;
  within = omega arith;
  few = omega arith;
}

pub visit-requires-clause-numbered : goal.visit-requires-clause-numbered
visit-requires-clause-numbered g c = c.loop-at.invariant.numbered

pub visit-requires-clause-followed : goal.visit-requires-clause-followed
visit-requires-clause-followed g c = IsFollowed-same _ _ _ _ _ _ c.loop-at.invariant.same_stores c.loop-at.invariant.searched.followed

pub returns-in_err-visit-clause-asked_few : goal.returns-in_err-visit-clause-asked_few
returns-in_err-visit-clause-asked_few g c =
    let inv = c.loop-at.invariant in
    let bound : c.loop-at.at < length c.loop-at.found.nodes = omega arith in
    let asked : AsksFew (Demanded (g.G.Graph.edge c.args.graph.now) (g.G.Graph.store c.args.graph.now) c.args.targets.now) c.args.budget (g.G.Graph.asked c.args.graph.now) (g.G.Graph.asked c.visit.new.graph) = elim c.in_err-visit.ensures.asked_or_not [
      | inl a ↦ AsksFew-take _ _ _ _ _ _ inv.searched.demanded c.as_slice.ensures.apart (omega arith) (Asks-then_none _ _ _ _ inv.asked a)
      | inr b ↦ AsksFew-take _ _ _ _ _ _ inv.searched.demanded c.as_slice.ensures.apart (omega arith) (Asks-take_more _ _ _ _ _ _ bound inv.asked (rw c.as_slice.ensures.value at b))
    ] in
    on_err c.from_residual-in_err-visit.result asked

pub loop-at-preserved : goal.loop-at-preserved
loop-at-preserved g c =
    let before = c.loop-at.invariant in
    let now = c.in_ok-visit.ensures in
    let bound : c.loop-at.at < length c.loop-at.found.nodes = omega arith in
    record {
      same_edges = λ a k b. (λ h. (before.same_edges a k b).0 ((now.same_edges a k b).0 h), λ h. (now.same_edges a k b).1 ((before.same_edges a k b).1 h));
      same_stores = λ s. (λ h. (before.same_stores s).0 ((now.same_stores s).0 h), λ h. (now.same_stores s).1 ((before.same_stores s).1 h));
      asked = rw (take-kept (c.loop-at.at + 1) _ _ now.grows.kept (omega arith)) (Asks-take_more _ _ _ _ _ _ bound before.asked (rw c.as_slice.ensures.value at now.asked));
      searched = IsSearched-visited _ _ _ _ _ _ _ _ _ _ _ _ _ _ _ before.same_edges before.same_stores bound c.as_slice.ensures.apart before.searched
          (rw c.as_slice.ensures.value at now.edges) (rw c.as_slice.ensures.value at now.grows) now.followed;
      numbered = now.numbered;
      within = let more = length-grows _ _ _ now.grows bound in omega (arith, more);
      few = omega arith;
    }

pub returns-then-as_slice-budget-clause-asked_few : goal.returns-then-as_slice-budget-clause-asked_few
returns-then-as_slice-budget-clause-asked_few g c =
    let inv = c.loop-at.invariant in
    AsksFew-take _ _ _ _ _ _ inv.searched.demanded c.as_slice-2.ensures.apart inv.few inv.asked
