use Rattle.link_classes.specs.Seen.{seen_method}
use Rattle.link_reach.proofs.Finding.{finds_method, judged_same, row_is}
use Rattle.link_reach.proofs.search.visit_method.Goals as goal

pub returns-clause-found : goal.returns-clause-found
returns-clause-found c =
    let w = c.args.targets.now.world in
    let there = rw c.classes.ensures at c.method-row_method.ensures.there in
    finds_method w c.args.row (seen_method c.method-row_method.result) (row_is w c.args.row _ there) c.args.found.now c.take_all.new.found (c.in_ok-take_all.ensures w _ c.in_ok-examined.ensures.examined)

pub returns-clause-fault : goal.returns-clause-fault
returns-clause-fault c = λ m is.
    let there = rw c.classes.ensures at c.method-row_method.ensures.there in
    judged_same c.args.targets.now.world c.args.row (seen_method c.method-row_method.result) m there is c.in_ok-examined.examined.fault c.in_ok-examined.ensures.examined.fault
