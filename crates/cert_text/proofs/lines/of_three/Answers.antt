use Rattle.std.proofs.Common.{◌≡◌, codes, rules, arith}
use Rattle.std.proofs.lemmas.Grind.{common_steps}
use Rattle.cert_text.proofs.LineWords.{claim_iff, start_iff}
use Rattle.cert_text.proofs.lines.of_three.Goals as goal

pub returns-in_ok-node-in-start : goal.returns-in_ok-node-in-start
returns-in_ok-node-in-start c =
    let head : c.args.head.now ≡ codes "start" = first_of (search rules, grind (arith, common_steps)) in
    rw head (start_iff c.args.first.now c.args.second.now c.in_ok-side-in-start.side c.in_ok-node-in-start.node c.in_ok-side-in-start.ensures c.in_ok-node-in-start.ensures)

pub returns-in_ok-call-in-claim : goal.returns-in_ok-call-in-claim
returns-in_ok-call-in-claim c =
    let head : c.args.head.now ≡ codes "claim" = first_of (search rules, grind (arith, common_steps)) in
    rw head (claim_iff c.args.first.now c.args.second.now c.in_ok-field-in-claim.field c.in_ok-call-in-claim.call c.in_ok-field-in-claim.ensures c.in_ok-call-in-claim.ensures)
