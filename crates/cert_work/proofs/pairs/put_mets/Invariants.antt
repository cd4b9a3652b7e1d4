use Rattle.std.proofs.Common.{ℕ, take}
use Rattle.lists.specs.Lists.{Has}
use Rattle.link_sites.specs.declared.site.Site.{Site}
use Rattle.spds_rules.specs.declared.node.Node.{Node}
use Rattle.cert_work.specs.Roads.{AreAddedIn, StartOf}
use Rattle.cert_work.specs.Rules.{IsPut}
use Rattle.cert_work.proofs.pairs.put_mets.Given as goal

abbrev pub invariant-loop-met : goal.invariant-loop-met
invariant-loop-met l = record {
  added : AreAddedIn l.view l.fn.written l.written;
  there : (i : ℕ) → Has (take l.met-index l.mets) i → (base : Site) (n : Node) → StartOf l.view base n → IsPut l.written l.held.number i base n;
}
