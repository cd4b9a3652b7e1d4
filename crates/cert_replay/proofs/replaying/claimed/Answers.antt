use Rattle.std.proofs.Common.{sym}
use Rattle.cert_replay.proofs.Claims.{claims_by_last, claims_no_last, claims_other, claims_unheld}
use Rattle.cert_replay.proofs.replaying.claimed.Goals as goal

pub returns-in_err-field : goal.returns-in_err-field
returns-in_err-field c = rw c.from_residual.ensures (claims_no_last c.args.given.now c.args.lines.now (sym c.in_err-field.ensures.value))

pub returns-in_err-held_by-in-Claim : goal.returns-in_err-held_by-in-Claim
returns-in_err-held_by-in-Claim c =
    let l = c.in-Claim in
    rw c.from_residual-in_err-held_by-in-Claim.ensures
    (claims_unheld c.args.given.now c.args.lines.now c.in_ok-field.field-0.now l.field l.call (sym c.in_ok-field.ensures.value) c.in-Claim.is c.in_err-held_by-in-Claim.ensures)

pub returns-in_ok-held_by-in-Claim : goal.returns-in_ok-held_by-in-Claim
returns-in_ok-held_by-in-Claim c =
    let l = c.in-Claim in
    claims_by_last c.args.given.now c.args.lines.now c.in_ok-field.field-0.now l.field l.call (sym c.in_ok-field.ensures.value) c.in-Claim.is c.in_ok-held_by-in-Claim.field-0
    c.in_ok-held_by-in-Claim.ensures

pub returns-in_default : goal.returns-in_default
returns-in_default c =
    claims_other c.args.given.now c.args.lines.now c.in_ok-field.field-0.now (sym c.in_ok-field.ensures.value) (λ field call is. c.in_default.not-Claim field call is)
