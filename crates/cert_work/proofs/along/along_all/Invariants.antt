use Rattle.std.proofs.Common.{take}
use Rattle.lists.specs.Lists.{Has}
use Rattle.spds_rules.specs.declared.edge.Edge.{Edge}
use Rattle.cert_work.specs.Rules.{GoesOn}
use Rattle.cert_work.specs.Roads.{AreAddedIn}
use Rattle.cert_work.proofs.along.along_all.Given as goal

abbrev pub invariant-loop-edge : goal.invariant-loop-edge
invariant-loop-edge l = record {
  added : AreAddedIn l.view l.fn.written l.written;
  there : (y : Edge) → Has (take l.edge-index l.edges) y → GoesOn l.written l.held.length l.held.side l.held.site l.held.entry y.kind y.to;
}
