use Rattle.std.proofs.Common.{List, ℕ, [], ◌∷◌, ◌++◌, Err, ap, length, subst, inl, inr}
use Rattle.track_report.specs.Reports.{IsVerdictText, verdict_lines}
use Rattle.boom_top.specs.Refusals.{refusal}
use Rattle.boom_top.specs.Typestates.{IsProtocolReply}
use Rattle.boom_top.specs.declared.status.Status.TheVariants as status
use Rattle.boom_top.proofs.Both.{IfOk-both}
use Rattle.boom_top.proofs.Replied.{told}
use Rattle.boom_top.proofs.typestates.protocol_reply.Goals as goal

pub returns-in-Ok : goal.returns-in-Ok
returns-in-Ok g c =
    let verdict = c.in-Ok.verdict in
    IfOk-both c.verdict_reply.result _ _ _ c.verdict_reply.ensures.done c.verdict_reply.ensures.text (λ reply done t. (
      t.head ∷ (t.lines ++ verdict_lines (length verdict.findings) verdict.demanded),
      inr (
        record {
          verdict = verdict;
          is_verdict = c.in-Ok.ensures.verdict;
          affordable = c.in-Ok.ensures.within;
          told = subst (λ (x : List ℕ). IsVerdictText c.args.linked.now c.args.protocol.now c.args.entry.now verdict x) t.text_is t;
        },
        done,
      ),
      t.text_is,
    ))

pub returns-in-Err-OverBudget : goal.returns-in-Err-OverBudget
returns-in-Err-OverBudget g c =
    let spent = c.in-Err-OverBudget.budget in
    let a = c.in-Err-OverBudget.ensures.over spent (ap Err c.in-Err-OverBudget.field-0-is) in
    told (IsProtocolReply c.args.linked.now c.args.entry.now c.args.budget c.args.protocol.now) c.refused.result (status.OverBudget spent) c.refused.ensures
    (inl (a.1, (ap status.OverBudget a.0, ap (λ b. refusal (status.OverBudget b) ∷ []) a.0)))
