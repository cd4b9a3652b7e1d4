use Rattle.std.proofs.Common.{sym}
use Rattle.link_sites.specs.contracts.place.PlacePartialEq.TheImpl.{eq-value}
use Rattle.spds_rules.proofs.Keys.{same_place, self_place}
use Rattle.cert_replay.proofs.From.{differs}
use Rattle.cert_replay.proofs.Reading.{next_call, next_none, next_other}
use Rattle.cert_replay.proofs.links.next.Goals as goal

pub returns-in_default : goal.returns-in_default
returns-in_default c = next_none c.args.given.now c.args.site c.args.link c.args.call c.args.entry (λ n pushed is. c.in_default.not-Call n pushed is)

pub returns-then-eq : goal.returns-then-eq
returns-then-eq c =
    let same = same_place c.in-Call.pushed c.args.call (sym c.if-eq.ensures) in
    rw c.in-Call.is (next_call c.args.given.now c.args.site c.args.link c.args.call c.in-Call.node c.in-Call.pushed same c.below.result c.below.ensures)

pub returns-else-eq : goal.returns-else-eq
returns-else-eq c =
    let not = differs (eq-value).it self_place c.in-Call.pushed c.args.call c.if-eq.ensures in
    rw c.in-Call.is (next_other c.args.given.now c.args.site c.args.link c.args.call c.in-Call.node c.in-Call.pushed not)
