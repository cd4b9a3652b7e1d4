use Rattle.std.proofs.Common.{◌-◌, ◌^◌, IfSome}
use Rattle.cert_work.specs.Roads.{AreAddedIn}
use Rattle.cert_work.specs.Wants.{IsEverywhere}
use Rattle.cert_work.specs.Work.{IsWorkingOf}
use Rattle.cert_work.proofs.work.work_off.Given as goal

abbrev pub invariant-loop-work : goal.invariant-loop-work
invariant-loop-work l = record {
  added : AreAddedIn l.view l.fn.work.written l.work.written;
  work : IsWorkingOf l.view l.work;
  last : IfSome l.last (IsEverywhere l.view.wants.now);
}

abbrev pub decreases-loop-work : goal.decreases-loop-work
decreases-loop-work l = 2 ^ 32 - l.work.done
