use Rattle.demand_set.proofs.Standing.{demanded_nodes}
use Rattle.demand_set.proofs.Whole.{IsDemandOf-walked}
use Rattle.program_demand.proofs.finding.demand.Goals as goal

pub of_walk-requires-clause-nodes : goal.of_walk-requires-clause-nodes
of_walk-requires-clause-nodes c = λ n has. demanded_nodes _ c.tell_form.ensures (record { targets = c.args.targets.now; reach = c.args.reach }) c.requires.nodes (c.in_ok-walk.ensures.walked.nodes.each n has)

pub returns-clause-demanded : goal.returns-clause-demanded
returns-clause-demanded c =
    let is = c.in_ok-of_walk.ensures in
    IsDemandOf-walked _ (record { targets = c.args.targets.now; reach = c.args.reach }) _ _ (λ n d. demanded_nodes _ c.tell_form.ensures (record { targets = c.args.targets.now; reach = c.args.reach }) c.requires.nodes d) c.in_ok-walk.ensures.walked is.nodes is.edges is.fields is.stores is.sites
