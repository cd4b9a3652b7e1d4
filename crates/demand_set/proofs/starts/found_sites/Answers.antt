use Rattle.std.proofs.Common.{arith, sym}
use Rattle.std.proofs.lemmas.List.{take_all}
use Rattle.link_sites.specs.contracts.site.SitePartialEq.TheImpl.{eq-value}
use Rattle.lists.proofs.Keys.{Adds-insert_key}
use Rattle.lists.proofs.Joined.{Has-adds}
use Rattle.demand_set.proofs.Filed.{HasStart-more, HasStart-plain}
use Rattle.demand_set.proofs.SameSite.{same_site, self_site}
use Rattle.demand_set.proofs.starts.found_sites.Goals as goal
use Rattle.demand_set.proofs.starts.found_sites.Goals.{in-Some+in_ok-insert, in_default}

pub loop-node-preserved : goal.loop-node-preserved
loop-node-preserved c = elim c.match-site_of.branch [
  | in-Some+in_ok-insert w ↦ rw w.sites-is (record {
    found = HasStart-more _ _ _ _ _ _ c.loop-node-test.true (sym w.in-Some.ensures)
        (Has-adds _ _ _ (rw w.in_ok-insert.ensures.keys (Adds-insert_key (eq-value).it same_site self_site _ _))) c.loop-node.invariant.found;
    few = grind (arith, w.in_ok-insert.ensures.len, c.loop-node.invariant.few);
  })
  | in_default w ↦ rw w.sites-is (record {
    found = HasStart-plain _ _ _ _ c.loop-node-test.true (sym w.in_default.ensures) c.loop-node.invariant.found;
    few = omega (arith, c.loop-node.invariant.few);
  })
]

pub returns-clause-found : goal.returns-clause-found
returns-clause-found c = rw (take_all c.loop-node.node-index c.args.nodes.now c.loop-node-test.false) at c.loop-node.invariant.found
