use Rattle.std.proofs.Common.{List, [], subst, sym}
use Rattle.lists.specs.Lists.{Has}
use Rattle.spds_rules.specs.declared.node.Node.{Node}
use Rattle.spds_rules.specs.Systems.{Meets}
use Rattle.spds_rules.specs.Demand.{about}
use Rattle.spds_solve.specs.Solved.{IsListed}
use Rattle.cert_work.proofs.Growing.{added_more, there_more}
use Rattle.cert_work.proofs.Turns.{work_more}
use Rattle.cert_trace.proofs.Traced.{added_first, all_worked, wants_less}
use Rattle.cert_trace.proofs.tracing.begin.Goals as goal

pub start_all-requires : goal.start_all-requires
start_all-requires c = λ n has. c.requires.demand.nodes.each n (subst (λ (xs : List Node). Has xs n) c.nodes.ensures has)

pub work_off-requires-clause-work : goal.work_off-requires-clause-work
work_off-requires-clause-work c = work_more c.args.view.now.linked.now c.args.view.now.target c.args.view.now.wants.now c.nothing-work.result c.nothing-work.ensures.work c.start_all.new.written c.in_ok-start_all.ensures.added

pub returns-clause-traced : goal.returns-clause-traced
returns-clause-traced c = record {
  work = c.in_ok-work_off.ensures.work;
  all = c.in_ok-work_off.ensures.all;
  closed = record {
    wanted = wants_less c.args.view.now.linked.now c.args.view.now.target c.args.view.now.wants.now (Meets c.args.view.now.linked.now (about c.args.view.now.target))
        (IsListed c.args.demand.now []) (λ o base s listed. let h = listed.1.1 in cc) c.requires.wanted;
    worked = all_worked c.args.view.now.linked.now c.args.view.now.target c.args.view.now.wants.now c.work_off.new.work.written c.work_off.new.work.done c.in_ok-work_off.ensures.all c.in_ok-work_off.ensures.work.worked;
    starts = λ side o n st wanted. there_more c.args.view.now.linked.now c.args.view.now.target c.in_ok-work_off.ensures.added _ _
        (c.in_ok-start_all.ensures.there side o n (subst (λ (xs : List Node). Has xs n) (sym c.nodes.ensures) (c.requires.demand.nodes.all n st.1)) st wanted);
    mets = λ o base s n listed. let h = listed.1.1 in cc;
  };
}

pub returns-clause-added : goal.returns-clause-added
returns-clause-added c =
    added_first c.args.view.now.linked.now c.args.view.now.target c.nothing-work.result.written c.work_off.new.work.written c.nothing-work.ensures.lines c.nothing-work.ensures.given
    c.nothing-work.ensures.lengths
    (added_more c.args.view.now.linked.now c.args.view.now.target c.in_ok-start_all.ensures.added c.in_ok-work_off.ensures.added)
