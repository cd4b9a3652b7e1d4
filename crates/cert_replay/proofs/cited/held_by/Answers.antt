use Rattle.std.proofs.Common.{sym}
use Rattle.cert_rules.specs.contracts.line.SidePartialEq.TheImpl.{eq-value}
use Rattle.cert_rules.proofs.Same.{same_side, self_side}
use Rattle.cert_replay.proofs.CitedFacts.{held_at, held_none, held_not, held_other}
use Rattle.cert_replay.proofs.From.{differs}
use Rattle.cert_replay.proofs.cited.held_by.Goals as goal

pub returns-in_err-of : goal.returns-in_err-of
returns-in_err-of c =
    let given = c.args.given.now in
    let number = c.args.number in
    rw c.from_residual.ensures (held_none given number c.args.side c.in_err-of.ensures)

pub returns-in_default : goal.returns-in_default
returns-in_default c =
    let given = c.args.given.now in
    let number = c.args.number in
    held_other given number c.args.side c.in_ok-of.field-0 (λ of o e n is. c.in_default.not-At of o e n is) c.in_ok-of.ensures

pub returns-then-eq : goal.returns-then-eq
returns-then-eq c =
    let given = c.args.given.now in
    let number = c.args.number in
    let same = same_side c.in-At.of c.args.side (sym c.if-eq.ensures) in
    held_at given number c.args.side c.in-At.of c.in-At.site c.in-At.entry c.in-At.node same (rw c.in-At.is at c.in_ok-of.ensures)

pub returns-else-eq : goal.returns-else-eq
returns-else-eq c =
    let given = c.args.given.now in
    let number = c.args.number in
    let not = differs (eq-value).it self_side c.in-At.of c.args.side c.if-eq.ensures in
    held_not given number c.args.side c.in-At.of c.in-At.site c.in-At.entry c.in-At.node not (rw c.in-At.is at c.in_ok-of.ensures)
