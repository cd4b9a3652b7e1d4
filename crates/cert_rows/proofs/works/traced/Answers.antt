use Rattle.std.proofs.Common.{List, subst}
use Rattle.lists.specs.Lists.{Has}
use Rattle.spds_rules.specs.declared.node.Node.{Node}
use Rattle.cert_work.proofs.Turns.{work_more}
use Rattle.cert_rows.proofs.works.traced.Goals as goal

pub start_all-requires : goal.start_all-requires
start_all-requires c = λ n has. c.requires.demand.nodes.each n (subst (λ (xs : List Node). Has xs n) c.nodes.ensures has)

pub work_off-requires-clause-work : goal.work_off-requires-clause-work
work_off-requires-clause-work c =
    work_more c.args.view.now.linked.now c.args.view.now.target c.args.view.now.wants.now c.nothing-work.result c.nothing-work.ensures.work c.start_all.new.written
    c.in_ok-start_all.ensures.added
