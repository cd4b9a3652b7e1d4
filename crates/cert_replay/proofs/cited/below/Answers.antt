use Rattle.std.proofs.Common.{sym}
use Rattle.demand_set.proofs.SameSite.{same_site, self_site}
use Rattle.link_sites.specs.contracts.site.SitePartialEq.TheImpl as site
use Rattle.cert_rules.specs.contracts.fact.EntryPartialEq.TheImpl as entry
use Rattle.cert_rules.specs.contracts.line.SidePartialEq.TheImpl as side
use Rattle.cert_rules.proofs.Same.{same_entry, same_side, self_entry, self_side}
use Rattle.cert_replay.proofs.CitedFacts.{link_at, link_none, link_not, link_other}
use Rattle.cert_replay.proofs.From.{differs}
use Rattle.cert_replay.proofs.cited.below.Goals as goal
use Rattle.cert_replay.proofs.cited.below.Goals.{else-eq-via-then-eq+then-eq-2+else-eq-3, else-eq-via-then-eq+else-eq-2, else-eq-via-else-eq}

pub returns-in_err-of : goal.returns-in_err-of
returns-in_err-of c =
    let given = c.args.given.now in
    let number = c.args.number in
    rw c.from_residual.ensures (link_none given number c.args.side c.args.site c.args.entry c.in_err-of.ensures)

pub returns-in_default : goal.returns-in_default
returns-in_default c =
    let given = c.args.given.now in
    let number = c.args.number in
    link_other given number c.args.side c.args.site c.args.entry c.in_ok-of.field-0 (λ of o e x is. c.in_default.not-Link of o e x is) c.in_ok-of.ensures

pub returns-then-eq-3 : goal.returns-then-eq-3
returns-then-eq-3 c =
    let given = c.args.given.now in
    let number = c.args.number in
    let l = c.in-Link in
    let of = same_side l.of c.args.side (sym c.if-eq.ensures) in
    let linked = same_site l.linked c.args.site (sym c.if-eq-2.ensures) in
    let above = same_entry l.above c.args.entry (sym c.if-eq-3.ensures) in
    link_at given number c.args.side l.of c.args.site l.linked c.args.entry l.above l.below of linked above (rw c.in-Link.is at c.in_ok-of.ensures)

pub returns-else-eq : goal.returns-else-eq
returns-else-eq c =
    let given = c.args.given.now in
    let number = c.args.number in
    let l = c.in-Link in
    link_not given number c.args.side l.of c.args.site l.linked c.args.entry l.above l.below (λ of linked above. elim c.else-eq.branch [
      | else-eq-via-then-eq+then-eq-2+else-eq-3 w ↦ differs (entry.eq-value).it self_entry l.above c.args.entry w.if-eq-3.ensures above
      | else-eq-via-then-eq+else-eq-2 w ↦ differs (site.eq-value).it self_site l.linked c.args.site w.if-eq-2.ensures linked
      | else-eq-via-else-eq w ↦ differs (side.eq-value).it self_side l.of c.args.side w.if-eq.ensures of
    ]) (rw c.in-Link.is at c.in_ok-of.ensures)
