use Rattle.std.proofs.Common.{List, ℕ, [], ◌∷◌, ◌++◌, Err, ap, length, subst, inl, inr}
use Rattle.report_text.specs.Answers.{count_lines}
use Rattle.report_text.specs.Paths.{IsPathText}
use Rattle.path_query.proofs.Sited.{path_sites_stand}
use Rattle.boom_words.specs.Commands.{paths_of}
use Rattle.boom_top.specs.Paths.{IsFieldsReply}
use Rattle.boom_top.specs.Refusals.{refusal}
use Rattle.boom_top.specs.declared.status.Status.TheVariants as status
use Rattle.boom_top.proofs.Both.{IfOk-both}
use Rattle.boom_top.proofs.Replied.{told}
use Rattle.boom_top.proofs.paths.fields_reply.Goals as goal

pub led-requires-clause-sites : goal.led-requires-clause-sites
led-requires-clause-sites g c =
    path_sites_stand c.args.linked.now c.requires.well.form c.args.node c.args.fields.now c.in-Ok.answer.sites c.in-Ok.answer.demanded c.in-Ok.ensures.answer

pub returns-in-Ok : goal.returns-in-Ok
returns-in-Ok g c =
    let sites = c.in-Ok.answer.sites in
    let demanded = c.in-Ok.answer.demanded in
    IfOk-both c.led.result _ _ _ c.led.ensures.done c.led.ensures.text (λ reply done t. (
      t.query ∷ (t.lines ++ count_lines (length sites) demanded),
      inr (
        record {
          sites = sites;
          demanded = demanded;
          answer = c.in-Ok.ensures.answer;
          affordable = c.in-Ok.ensures.within;
          told = subst (λ (x : List ℕ). IsPathText c.args.linked.now c.args.node c.args.path.now sites demanded x) t.text_is t;
        },
        done,
      ),
      t.text_is,
    ))

pub returns-in-Err-OverBudget : goal.returns-in-Err-OverBudget
returns-in-Err-OverBudget g c =
    let spent = c.in-Err-OverBudget.budget in
    let a = c.in-Err-OverBudget.ensures.over spent (ap Err c.in-Err-OverBudget.field-0-is) in
    told (IsFieldsReply c.args.linked.now (paths_of c.args.asked.now c.args.path.now) c.args.node c.args.fields.now) c.refused.result (status.OverBudget spent) (rw c.in-Err-OverBudget.field-0-is at c.refused.ensures)
    (inl (a.1, (ap status.OverBudget a.0, ap (λ b. refusal (status.OverBudget b) ∷ []) a.0)))
