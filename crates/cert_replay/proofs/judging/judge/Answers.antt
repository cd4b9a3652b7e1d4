use Rattle.std.proofs.Common.{◌∙◌, Some, sym, true≢false}
use Rattle.cert_replay.proofs.From.{from_none, from_some, one_finds}
use Rattle.cert_replay.proofs.Judged.{claim_judged, claim_refused, judged_row}
use Rattle.cert_replay.proofs.judging.judge.Goals as goal

pub returns-then-claim : goal.returns-then-claim
returns-then-claim c =
    let v = c.args.view.now in
    rw c.in-Claim.is (claim_judged v.linked.now v.target c.args.given.now c.in-Claim.field c.in-Claim.call (c.claim.ensures.0 c.if-claim.true))

pub returns-in-Claim : goal.returns-in-Claim
returns-in-Claim c =
    let v = c.args.view.now in
    rw c.in-Claim.is
    (claim_refused v.linked.now v.target c.args.given.now c.in-Claim.field c.in-Claim.call (λ held. true≢false (sym (c.claim.ensures.1 held) ∙ c.if-claim.false)))

pub returns-in_err-fact_of : goal.returns-in_err-fact_of
returns-in_err-fact_of c =
    let v = c.args.view.now in
    rw c.from_residual.ensures (from_none _ _ _ (judged_row v.linked.now v.target c.args.given.now c.args.line.now c.in_default.not-Claim) c.in_err-fact_of.ensures)

pub returns : goal.returns
returns c =
    let v = c.args.view.now in
    from_some _ _ _ (judged_row v.linked.now v.target c.args.given.now c.args.line.now c.in_default.not-Claim) c.in_ok-fact_of.field-0 c.in_ok-fact_of.ensures _
    (one_finds (Some c.in_ok-fact_of.field-0))
