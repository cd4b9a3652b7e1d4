use Rattle.std.proofs.Common.{take}
use Rattle.lists.specs.Lists.{Has}
use Rattle.spds_rules.specs.declared.node.Node.{Node}
use Rattle.cert_work.specs.Rules.{GoesInto}
use Rattle.cert_work.specs.Roads.{AreAddedIn}
use Rattle.cert_work.proofs.putting.put_all.Given as goal

abbrev pub invariant-loop-start : goal.invariant-loop-start
invariant-loop-start l = record {
  added : AreAddedIn l.view l.fn.written l.written;
  there : (y : Node) → Has (take l.start-index l.starts) y → GoesInto l.written l.held.length l.held.side l.held.site l.held.entry l.meeting.store.field y;
}
