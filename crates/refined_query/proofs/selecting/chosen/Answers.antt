use Rattle.std.proofs.Common.{false, get_or}
use Rattle.std.proofs.lemmas.Option.{slice_get-get_or}
use Rattle.link_sites.specs.declared.site.Site.{Site}
use Rattle.link_sites.specs.declared.site.Site.TheVariants as site
use Rattle.refined_query.proofs.Chosen.{added, added_none, chosen_all, chosen_step}
use Rattle.refined_query.proofs.selecting.chosen.Goals.{in-Some+in_ok-add-in-Some, in-None}
use Rattle.refined_query.proofs.selecting.chosen.Goals as goal

pub loop-site-preserved : goal.loop-site-preserved
loop-site-preserved c =
    let none_site : Site = site.New (record { method = 0; index = 0; raised = false }) in
    let at = c.loop-site.site-index in
    let here = slice_get-get_or c.args.sites.now at none_site c.loop-site-test.true in
    elim c.match-found_from.branch [
      | in-Some+in_ok-add-in-Some w ↦ rw w.found-is (chosen_step c.args.linked.now c.args.sites.now c.args.class c.args.key at (get_or c.args.sites.now at none_site) c.found_from.result
          c.loop-site.found.keys w.add.new.self.keys here c.found_from.ensures c.loop-site.invariant
          (added c.loop-site.found.keys w.add.new.self.keys c.found_from.result w.in-Some.target w.in-Some.is w.in_ok-add-in-Some.ensures.keys))
      | in-None w ↦ rw w.found-is (chosen_step c.args.linked.now c.args.sites.now c.args.class c.args.key at (get_or c.args.sites.now at none_site) c.found_from.result
          c.loop-site.found.keys c.loop-site.found.keys here c.found_from.ensures c.loop-site.invariant
          (added_none c.loop-site.found.keys c.found_from.result w.in-None.is))
    ]

pub returns : goal.returns
returns c = λ target.
    let was = c.loop-site.invariant target in
    let all = chosen_all c.args.linked.now c.args.sites.now c.args.class c.args.key c.loop-site.site-index target c.loop-site-test.false in
    ((λ has. all.0 (was.0 has)), λ is. was.1 (all.1 is))
