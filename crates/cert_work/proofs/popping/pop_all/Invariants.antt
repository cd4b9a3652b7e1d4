use Rattle.std.proofs.Common.{◌+◌, take}
use Rattle.lists.specs.Lists.{Has}
use Rattle.spds_rules.specs.declared.edge.Edge.{Edge}
use Rattle.cert_rules.specs.declared.fact.Fact.TheVariants.{At}
use Rattle.cert_rules.specs.Given.{Takes}
use Rattle.cert_lines.specs.Noted.{IsThere}
use Rattle.cert_work.specs.Rules.{one_more}
use Rattle.cert_work.specs.Roads.{AreAddedIn}
use Rattle.cert_work.proofs.popping.pop_all.Given as goal

abbrev pub invariant-loop-edge : goal.invariant-loop-edge
invariant-loop-edge l = record {
  added : AreAddedIn l.view l.fn.written l.written;
  there : (y : Edge) → Has (take l.edge-index l.edges) y → Takes l.held.side l.held.entry y.kind → IsThere l.written (At l.held.side l.held.site l.below.entry y.to) (one_more l.held.side (l.held.length + l.below.length));
}
