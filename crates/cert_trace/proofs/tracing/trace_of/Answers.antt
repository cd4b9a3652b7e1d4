use Rattle.std.proofs.Common.{All, List, subst}
use Rattle.lists.specs.Lists.{Has}
use Rattle.cert_rules.specs.declared.line.Line.{Line}
use Rattle.spds_rules.specs.Demand.{about}
use Rattle.cert_rules.specs.Spelled.{FitsLine}
use Rattle.cert_work.proofs.Growing.{added_more}
use Rattle.cert_trace.proofs.Apart.{added_apart, added_well_read}
use Rattle.cert_trace.proofs.Traced.{given_first, told_first}
use Rattle.cert_trace.proofs.tracing.trace_of.Goals as goal

pub follow_all-requires-clause-mets : goal.follow_all-requires-clause-mets
follow_all-requires-clause-mets c = c.meets.ensures c.args.view.now.linked.now (about c.args.view.now.target) c.args.demand.now c.requires.solved

pub all_fit-requires : goal.all_fit-requires
all_fit-requires c = λ l has.
    added_well_read c.args.view.now.linked.now c.args.view.now.target (added_more c.args.view.now.linked.now c.args.view.now.target c.in_ok-work.ensures.added c.in_ok-follow_all.ensures.added) l
    (subst (λ (ls : List Line). Has ls l) c.lines.ensures has)

pub returns-clause-given : goal.returns-clause-given
returns-clause-given c =
    given_first c.args.view.now.linked.now c.args.view.now.target c.follow_all.new.work.written (added_more c.args.view.now.linked.now c.args.view.now.target c.in_ok-work.ensures.added c.in_ok-follow_all.ensures.added)

pub returns-clause-told : goal.returns-clause-told
returns-clause-told c =
    told_first c.args.view.now.linked.now c.args.view.now.target c.follow_all.new.work.written (added_more c.args.view.now.linked.now c.args.view.now.target c.in_ok-work.ensures.added c.in_ok-follow_all.ensures.added)

pub returns-clause-apart : goal.returns-clause-apart
returns-clause-apart c =
    added_apart c.args.view.now.linked.now c.args.view.now.target (added_more c.args.view.now.linked.now c.args.view.now.target c.in_ok-work.ensures.added c.in_ok-follow_all.ensures.added)

pub returns-clause-fits : goal.returns-clause-fits
returns-clause-fits c =
    subst (All FitsLine) c.lines.ensures c.all_fit.ensures

pub returns-clause-closed : goal.returns-clause-closed
returns-clause-closed c =
    let traced = c.in_ok-follow_all.ensures.traced in
    let exact = (c.meets.ensures c.args.view.now.linked.now (about c.args.view.now.target) c.args.demand.now c.requires.solved).exact in
    record {
      wants = c.args.view.now.wants.now;
      closed = record {
        wanted = c.requires.wanted;
        worked = traced.closed.worked;
        starts = traced.closed.starts;
        mets = λ o base s n m. traced.closed.mets o base s n ((exact o base s).1 m);
      };
    }

pub returns-clause-filed : goal.returns-clause-filed
returns-clause-filed c =
    let traced = c.in_ok-follow_all.ensures.traced in record { filed = traced.work.filed; all = traced.all }

pub returns-clause-ends : goal.returns-clause-ends
returns-clause-ends c = c.in_ok-follow_all.ensures.traced.work.ends
