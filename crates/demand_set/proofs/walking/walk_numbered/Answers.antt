use Rattle.demand_set.specs.Walks.{IsWalk, walk_of}
use Rattle.demand_set.proofs.Counts.{HasMore-not}
use Rattle.demand_set.proofs.Searched.{IsWalk-whole}
use Rattle.demand_set.proofs.walking.walk_numbered.Given.{Over}
use Rattle.demand_set.proofs.walking.walk_numbered.Goals as goal
use Rattle.demand_set.proofs.walking.walk_numbered.Goals.{In_ok-walked_of}

pub returns-in_err-search-clause-enough : goal.returns-in_err-search-clause-enough
returns-in_err-search-clause-enough g c = λ b few e.
    let same = rw e at c.from_residual.ensures.1 in
    HasMore-not _ (c.in_err-search.ensures.over b (cc same)).1 few

walked : (g : Over) (c : In_ok-walked_of g) → IsWalk (g.G.Graph.edge c.args.graph.now) (g.G.Graph.store c.args.graph.now) c.args.targets.now (walk_of c.in_ok-walked_of.field-0)
walked g c =
    let is = c.in_ok-walked_of.ensures in
    let found = c.in_ok-search.ensures.searched in
    IsWalk-whole _ _ _ found.0 (walk_of c.in_ok-walked_of.field-0) (rw (is.nodes, is.edges, is.fields, is.stores) found.2) (rw is.nodes found.1) (rw is.nodes c.in_ok-search.ensures.apart) (rw is.fields is.fields_apart)

pub returns-clause-walked : goal.returns-clause-walked
returns-clause-walked g c = walked g (goal.at.returns-clause-walked g c).In_ok-walked_of

pub returns-clause-beyond : goal.returns-clause-beyond
returns-clause-beyond g c = λ more.
    let is = walked g (goal.at.returns-clause-beyond g c).In_ok-walked_of in
    absurd (HasMore-not _ more (record { some = c.in_ok-walked_of.field-0.nodes; all = is.nodes.all; few = rw c.in_ok-walked_of.ensures.nodes c.in_ok-search.ensures.within }))
