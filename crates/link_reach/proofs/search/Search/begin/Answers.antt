use Rattle.link_reach.proofs.Finding.{searched_begins}
use Rattle.link_reach.proofs.search.Search.begin.Goals as goal

pub returns-clause-searched : goal.returns-clause-searched
returns-clause-searched c =
    searched_begins c.args.targets.now.world (record { methods = c.new.result; classes = c.new-2.result }) c.visit_root.new.found c.new.ensures c.new-2.ensures c.in_ok-visit_root.ensures.found
