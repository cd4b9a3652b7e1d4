use Rattle.std.proofs.Common.{inl, refl}
use Rattle.lists.proofs.Places.{Has-adds_itself}
use Rattle.demand_set.specs.Searches.{ComesFrom, Grows}
use Rattle.demand_set.proofs.Asked.{Asks-none}
use Rattle.demand_set.proofs.Followed.{ComesFrom-stored, IsFollowed-known, IsFollowed-new, IsFollowed-plain, IsStored-grows}
use Rattle.demand_set.proofs.Grown.{Grows-adds, Grows-twice, Has-grows}
use Rattle.demand_set.proofs.EdgesAt.{AreEdgesAt-grows, AreEdgesAt-more}
use Rattle.demand_set.proofs.visiting.follow.Goals as goal

pub returns-in_default : goal.returns-in_default
returns-in_default g c =
    let grows : Grows (ComesFrom (g.G.Graph.store c.args.graph.now) c.args.edge) _ _ = Grows-adds _ _ _ c.in_ok-from.ensures.added (inl refl) in
    let source = Has-adds_itself _ _ _ c.in_ok-from.ensures.added in
    record {
      same_edges = λ a k b. (λ h. h, λ h. h);
      same_stores = λ s. (λ h. h, λ h. h);
      kept = Asks-none _;
      edges = c.in_ok-push.ensures.items;
      grows = grows;
      numbered = rw (c.in_ok-push.ensures.items, c.in_ok-push-2.ensures.items) (AreEdgesAt-more _ _ _ _ _ (AreEdgesAt-grows _ _ _ _ grows c.requires.numbered) c.in_ok-from.ensures.number (grows.kept _ _ c.requires.to) refl);
      followed = rw c.in_ok-push.ensures.items (IsFollowed-plain _ _ _ _ _ _ _ c.requires.followed grows source c.in_default.not-Load);
    }

pub returns-then-not-branch-clause-grows : goal.returns-then-not-branch-clause-grows
returns-then-not-branch-clause-grows g c = Grows-adds _ _ _ c.in_ok-from.ensures.added (inl refl)

pub returns-then-not-branch-clause-numbered : goal.returns-then-not-branch-clause-numbered
returns-then-not-branch-clause-numbered g c =
    let grows : Grows (ComesFrom (g.G.Graph.store c.args.graph.now) c.args.edge) _ _ = Grows-adds _ _ _ c.in_ok-from.ensures.added (inl refl) in
    rw (c.in_ok-push.ensures.items, c.in_ok-push-2.ensures.items) (AreEdgesAt-more _ _ _ _ _ (AreEdgesAt-grows _ _ _ _ grows c.requires.numbered) c.in_ok-from.ensures.number (grows.kept _ _ c.requires.to) refl)

pub returns-then-not-branch-clause-followed : goal.returns-then-not-branch-clause-followed
returns-then-not-branch-clause-followed g c =
    let grows : Grows (ComesFrom (g.G.Graph.store c.args.graph.now) c.args.edge) _ _ = Grows-adds _ _ _ c.in_ok-from.ensures.added (inl refl) in
    let source = Has-adds_itself _ _ _ c.in_ok-from.ensures.added in
    let known = rw c.if-not-branch.true at c.in_ok-add.ensures in
    rw c.in_ok-push.ensures.items (IsFollowed-known _ _ _ _ _ _ _ _ _ c.requires.followed grows source c.in-Load.is known)

pub returns-clause-grows : goal.returns-clause-grows
returns-clause-grows g c =
    let first : Grows (ComesFrom (g.G.Graph.store c.args.graph.now) c.args.edge) _ _ = Grows-adds _ _ _ c.in_ok-from.ensures.added (inl refl) in
    Grows-twice _ _ _ first c.in_ok-load.ensures.grows (λ n h. h) (λ n h. ComesFrom-stored (g.G.Graph.store c.args.graph.now) c.args.edge c.in-Load.field n c.in-Load.is h)

pub returns-clause-followed : goal.returns-clause-followed
returns-clause-followed g c =
    let first : Grows (ComesFrom (g.G.Graph.store c.args.graph.now) c.args.edge) _ _ = Grows-adds _ _ _ c.in_ok-from.ensures.added (inl refl) in
    let grows = Grows-twice {Fact = ComesFrom (g.G.Graph.store c.args.graph.now) c.args.edge} _ _ _ first c.in_ok-load.ensures.grows (λ n h. h) (λ n h. ComesFrom-stored (g.G.Graph.store c.args.graph.now) c.args.edge c.in-Load.field n c.in-Load.is h) in
    let source = Has-grows _ _ _ c.in_ok-load.ensures.grows (Has-adds_itself _ _ _ c.in_ok-from.ensures.added) in
    let new = rw c.if-not-branch.false at c.in_ok-add.ensures in
    let stored = c.in_ok-load.ensures.stored c.args.found.now.fields new.1 (IsStored-grows _ _ _ _ _ c.requires.followed.stored first) in
    rw c.in_ok-push.ensures.items (IsFollowed-new _ _ _ _ _ _ _ _ _ _ c.requires.followed grows source c.in-Load.is new.0 stored)

pub returns-clause-numbered : goal.returns-clause-numbered
returns-clause-numbered g c =
    let first : Grows (ComesFrom (g.G.Graph.store c.args.graph.now) c.args.edge) _ _ = Grows-adds _ _ _ c.in_ok-from.ensures.added (inl refl) in
    let one = AreEdgesAt-more _ _ _ _ _ (AreEdgesAt-grows _ _ _ _ first c.requires.numbered) c.in_ok-from.ensures.number (first.kept _ _ c.requires.to) refl in
    rw (c.in_ok-push.ensures.items, c.in_ok-push-2.ensures.items) (AreEdgesAt-grows _ _ _ _ c.in_ok-load.ensures.grows one)
