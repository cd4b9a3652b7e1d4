use Rattle.cert_replay.proofs.CitedFacts.{pair_at, pair_none, pair_other}
use Rattle.cert_replay.proofs.cited.pair_by.Goals as goal

pub returns-in_err-object : goal.returns-in_err-object
returns-in_err-object c =
    let given = c.args.given.now in
    let number = c.args.number in
    rw c.from_residual.ensures (pair_none given number c.in_err-object.ensures)

pub returns-in-Shared : goal.returns-in-Shared
returns-in-Shared c =
    let given = c.args.given.now in
    let number = c.args.number in
    pair_at given number c.in-Shared.object c.in-Shared.arg c.in-Shared.base c.in-Shared.at (rw c.in-Shared.is at c.in_ok-object.ensures)

pub returns-in_default : goal.returns-in_default
returns-in_default c =
    let given = c.args.given.now in
    let number = c.args.number in
    pair_other given number c.in_ok-object.field-0 (λ o a b n is. c.in_default.not-Shared o a b n is) c.in_ok-object.ensures
