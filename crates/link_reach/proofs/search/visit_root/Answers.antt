use Rattle.std.proofs.Common.{[]}
use Rattle.link_reach.proofs.Finding.{finds_root_ok}
use Rattle.link_reach.proofs.search.visit_root.Goals as goal

pub returns-clause-found : goal.returns-clause-found
returns-clause-found c =
    let by_classes = c.root_method.ensures.seen [] c.in_ok-root.ensures in
    let seen = rw c.classes-classes.ensures at by_classes in
    finds_root_ok c.args.targets.now.world c.in_ok-examined.examined c.args.found.now c.take_all.new.found c.take_all.result (rw seen at c.in_ok-examined.ensures.examined) c.take_all.ensures
