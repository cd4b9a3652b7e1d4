use Rattle.std.proofs.Common.{arith}
use Rattle.cert_work.specs.Added.{AreAdded}
use Rattle.cert_work.proofs.Bettering.{work_begins, work_ends}
use Rattle.cert_work.proofs.Growing.{added_more}
use Rattle.cert_work.proofs.work.work_off.Goals as goal

pub loop-work-init : goal.loop-work-init
loop-work-init c = record { added = AreAdded.none; work = work_begins c.args.view.now.linked.now c.args.view.now.target c.args.view.now.wants.now c.args.work.now c.requires.work; last = tt }

pub loop-work-preserved : goal.loop-work-preserved
loop-work-preserved c = record {
  added = added_more c.args.view.now.linked.now c.args.view.now.target c.loop-work.invariant.added c.in_ok-work_next.ensures.added;
  work = c.in_ok-work_next.ensures.work;
  last = c.work_next.ensures.last;
}

pub returns-clause-work : goal.returns-clause-work
returns-clause-work c =
    work_ends c.args.view.now.linked.now c.args.view.now.target c.args.view.now.wants.now c.loop-work.work c.loop-work.invariant.work
    (omega (arith, c.loop-work.invariant.work.within))
