use Rattle.std.proofs.Common.{take}
use Rattle.cert_work.specs.Roads.{AreAddedIn}
use Rattle.cert_trace.specs.Resting.{IsTraced}
use Rattle.cert_trace.proofs.tracing.follow_all.Given as goal

abbrev pub invariant-loop-met : goal.invariant-loop-met
invariant-loop-met l = record {
  added : AreAddedIn l.view l.fn.work.written l.work.written;
  traced : IsTraced l.view l.demand (take l.met-index l.mets) l.work;
}
