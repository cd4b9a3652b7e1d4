use Rattle.std.proofs.Common.{List, ℕ, [], ◌∷◌, ◌++◌, Err, ap, codes, refl, subst, sym, inl, inr}
use Rattle.std.specs.Fmt.{decimal}
use Rattle.report_text.specs.Answers.{IsAcceptedText, IsQueryNode}
use Rattle.boom_top.specs.Refusals.{refusal}
use Rattle.boom_top.specs.Replays.{IsReplayReply}
use Rattle.boom_top.specs.declared.status.Status.TheVariants as status
use Rattle.boom_top.proofs.Both.{IfOk-both}
use Rattle.boom_top.proofs.Noded.{certified_site}
use Rattle.boom_top.proofs.Replied.{told}
use Rattle.boom_top.proofs.replays.replay_reply.Goals as goal

pub accepted_reply-requires-clause-target : goal.accepted_reply-requires-clause-target
accepted_reply-requires-clause-target c =
    let a = c.in-Ok.ensures.accepted in
    subst (IsQueryNode c.args.linked.now) (sym a.2.is_target) a.2.askable.is_node

pub accepted_reply-requires-clause-site : goal.accepted_reply-requires-clause-site
accepted_reply-requires-clause-site c =
    let a = c.in-Ok.ensures.accepted in
    certified_site c.args.linked.now c.requires a.0.target a.0.lines c.in-Ok.accepted.site a.2.certified

pub returns-in-Ok : goal.returns-in-Ok
returns-in-Ok c =
    let a = c.in-Ok.ensures.accepted in
    let is = c.in-Ok.accepted in
    IfOk-both c.accepted_reply.result _ _ _ c.accepted_reply.ensures.done c.accepted_reply.ensures.text (λ reply done t.
    let lines = t.query ∷ t.line ∷ (codes "demanded " ++ decimal is.demanded) ∷ [] in (
      lines,
      inr (
        a.0,
        a.1,
        inr (inr (
          record {
            node = is.target;
            site = is.site;
            demanded = is.demanded;
            accepted = a.2;
            told = subst (λ (x : List ℕ). IsAcceptedText c.args.linked.now is.target is.site is.demanded x) t.text_is t;
          },
          done,
        )),
      ),
      t.text_is,
    ))

pub returns-in-Err-NotCertificate : goal.returns-in-Err-NotCertificate
returns-in-Err-NotCertificate c =
    let bad = c.in-Err-NotCertificate.ensures.unread c.in-Err-NotCertificate.at (ap Err c.in-Err-NotCertificate.field-0-is) in
    told (IsReplayReply c.args.linked.now c.args.budget c.args.text.now) c.refused.result (status.NotCertificate c.in-Err-NotCertificate.at) c.refused.ensures
    (inl (c.in-Err-NotCertificate.at, bad, (refl, refl)))

pub returns-in-Err-Rejected : goal.returns-in-Err-Rejected
returns-in-Err-Rejected c =
    let line = c.in-Err-Rejected.line in
    let a = c.in-Err-Rejected.ensures.rejected line (ap Err c.in-Err-Rejected.field-0-is) in
    told (IsReplayReply c.args.linked.now c.args.budget c.args.text.now) c.refused-in-Err-Rejected.result (status.Rejected line) c.refused-in-Err-Rejected.ensures
    (inr (a.0, a.1, inl (line, a.2, (refl, refl))))

pub returns-in-Err-OverBudget : goal.returns-in-Err-OverBudget
returns-in-Err-OverBudget c =
    let spent = c.in-Err-OverBudget.budget in
    let a = c.in-Err-OverBudget.ensures.over spent (ap Err c.in-Err-OverBudget.field-0-is) in
    told (IsReplayReply c.args.linked.now c.args.budget c.args.text.now) c.refused-in-Err-OverBudget.result (status.OverBudget spent) c.refused-in-Err-OverBudget.ensures
    (inr (a.1.0, a.1.1, inr (inl (a.1.2, (ap status.OverBudget a.0, ap (λ b. refusal (status.OverBudget b) ∷ []) a.0)))))
