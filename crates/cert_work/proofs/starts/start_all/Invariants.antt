use Rattle.std.proofs.Common.{take}
use Rattle.lists.specs.Lists.{Has}
use Rattle.link_sites.specs.declared.site.Site.{Site}
use Rattle.spds_rules.specs.declared.node.Node.{Node}
use Rattle.cert_rules.specs.declared.fact.Entry.TheVariants.{Base}
use Rattle.cert_rules.specs.declared.fact.Fact.TheVariants.{At}
use Rattle.cert_rules.specs.declared.line.Side.{Side}
use Rattle.cert_lines.specs.Noted.{IsThere}
use Rattle.cert_work.specs.Roads.{AreAddedIn, StartOf}
use Rattle.cert_work.specs.Wants.{IsWanted}
use Rattle.cert_work.proofs.starts.start_all.Given as goal

abbrev pub invariant-loop-node : goal.invariant-loop-node
invariant-loop-node l = record {
  added : AreAddedIn l.view l.fn.written l.written;
  there : (n : Node) → Has (take l.node-index l.nodes) n → (side : Side) (o : Site) → StartOf l.view o n → IsWanted l.view.wants.now o n → IsThere l.written (At side o Base n) 0;
}
