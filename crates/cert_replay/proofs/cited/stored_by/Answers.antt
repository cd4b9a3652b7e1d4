use Rattle.cert_replay.proofs.CitedFacts.{stored_at, stored_none, stored_other}
use Rattle.cert_replay.proofs.cited.stored_by.Goals as goal

pub returns-in_err-object : goal.returns-in_err-object
returns-in_err-object c =
    let given = c.args.given.now in
    let number = c.args.number in
    rw c.from_residual.ensures (stored_none given number c.in_err-object.ensures)

pub returns-in-Met : goal.returns-in-Met
returns-in-Met c =
    let given = c.args.given.now in
    let number = c.args.number in
    stored_at given number c.in-Met.object c.in-Met.base c.in-Met.store (rw c.in-Met.is at c.in_ok-object.ensures)

pub returns-in_default : goal.returns-in_default
returns-in_default c =
    let given = c.args.given.now in
    let number = c.args.number in
    stored_other given number c.in_ok-object.field-0 (λ o b x is. c.in_default.not-Met o b x is) c.in_ok-object.ensures
