use Rattle.std.proofs.Common.{sym, subst}
use Rattle.link_sites.specs.declared.site.Site.{Site}
use Rattle.track_systems.specs.Events.{IsTrackedSite}
use Rattle.type_track.proofs.Posing.{grows_quiet, grows_untracked, site_read}
use Rattle.type_track.proofs.search.add_site.Goals as goal
use Rattle.type_track.proofs.search.add_site.Goals.{else-is_tracked-via-then-is_tracked+else-may_come, else-is_tracked-via-else-is_tracked}

pub returns-else-is_tracked : goal.returns-else-is_tracked
returns-else-is_tracked c = λ q a posed there.
    let s = c.args.search.now in
    elim c.else-is_tracked.branch [
      | else-is_tracked-via-then-is_tracked+else-may_come w ↦
          grows_quiet q s posed a c.args.findings.now.items (λ r has answered.
          let yes = (w.may_come.ensures q a posed there).1 (r, has, answered) in
          let no = w.if-may_come.false in
          cc)
      | else-is_tracked-via-else-is_tracked w ↦
          grows_untracked q s posed a c.args.findings.now.items (λ tracked.
          let yes = c.is_tracked.ensures.1 (subst (λ (x : Site). IsTrackedSite s.given.linked.now s.protocol.now x)
          (sym (site_read c.sites.result.now s.given.demand.now.sites c.args.number a _ c.sites.ensures there)) tracked) in
          let no = w.if-is_tracked.false in
          cc)
    ]
