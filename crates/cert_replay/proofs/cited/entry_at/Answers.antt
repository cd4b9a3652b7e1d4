use Rattle.std.proofs.Common.{sym}
use Rattle.demand_set.proofs.SameSite.{same_site, self_site}
use Rattle.link_sites.specs.contracts.site.SitePartialEq.TheImpl.{eq-value}
use Rattle.spds_rules.proofs.Keys.{differs_node, same_node}
use Rattle.cert_replay.proofs.CitedFacts.{entry_at_is, entry_at_none, entry_at_not}
use Rattle.cert_replay.proofs.From.{differs}
use Rattle.cert_replay.proofs.cited.entry_at.Goals as goal
use Rattle.cert_replay.proofs.cited.entry_at.Goals.{else-eq-via-then-eq+else-eq-2, else-eq-via-else-eq}

pub returns-in_err-held : goal.returns-in_err-held
returns-in_err-held c =
    let given = c.args.given.now in
    let number = c.args.number in
    rw c.from_residual.ensures (entry_at_none given number c.args.side c.args.site c.args.node c.in_err-held.ensures)

pub returns-then-eq-2 : goal.returns-then-eq-2
returns-then-eq-2 c =
    let given = c.args.given.now in
    let number = c.args.number in
    let held = c.in_ok-held.held in
    let site = same_site held.site c.args.site (sym c.if-eq.ensures) in
    let node = same_node held.node c.args.node (sym c.if-eq-2.ensures) in
    entry_at_is given number c.args.side c.args.site c.args.node held site node c.in_ok-held.ensures

pub returns-else-eq : goal.returns-else-eq
returns-else-eq c =
    let given = c.args.given.now in
    let number = c.args.number in
    let held = c.in_ok-held.held in
    entry_at_not given number c.args.side c.args.site c.args.node held (λ site node. elim c.else-eq.branch [
      | else-eq-via-then-eq+else-eq-2 w ↦ differs_node held.node c.args.node w.if-eq-2.ensures node
      | else-eq-via-else-eq w ↦ differs (eq-value).it self_site held.site c.args.site w.if-eq.ensures site
    ]) c.in_ok-held.ensures
