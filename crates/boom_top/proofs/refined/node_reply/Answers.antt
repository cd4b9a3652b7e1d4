use Rattle.std.proofs.Common.{List, ℕ, [], ◌∷◌, ◌++◌, Err, ap, length, subst, inl, inr}
use Rattle.explain_text.proofs.Asked.{place_named}
use Rattle.query_core.proofs.Posed.{place_node}
use Rattle.refined_query.proofs.Sound.{refined_sites_stand}
use Rattle.report_text.specs.Answers.{IsRefinedText, count_lines, narrowed_line}
use Rattle.boom_words.specs.Commands.{refined_of}
use Rattle.boom_top.specs.Refusals.{refusal}
use Rattle.boom_top.specs.Refined.{IsRefinedNodeReply}
use Rattle.boom_top.specs.declared.status.Status.TheVariants as status
use Rattle.boom_top.proofs.Both.{IfOk-both}
use Rattle.boom_top.proofs.Replied.{told}
use Rattle.boom_top.proofs.refined.node_reply.Goals as goal

pub refined_sites-requires-clause-node : goal.refined_sites-requires-clause-node
refined_sites-requires-clause-node g c κs within =
    place_node c.args.linked.now c.args.asked.now.method.now c.args.asked.now.index c.args.asked.now.local.now c.args.node c.requires.place

pub refined_answer-requires-clause-target : goal.refined_answer-requires-clause-target
refined_answer-requires-clause-target g c =
    place_named c.args.linked.now c.args.asked.now.method.now c.args.asked.now.index c.args.asked.now.local.now c.args.node c.requires.place

pub refined_answer-requires-clause-sites : goal.refined_answer-requires-clause-sites
refined_answer-requires-clause-sites g c =
    refined_sites_stand c.args.linked.now c.requires.well c.args.rounds c.args.asked.now.budget c.args.node c.in-Ok.answer.narrowed c.in-Ok.answer.sites
    c.in-Ok.answer.demanded c.in-Ok.ensures.answer

pub returns-in-Ok : goal.returns-in-Ok
returns-in-Ok g c =
    let a = c.in-Ok.answer in
    IfOk-both c.refined_answer.result _ _ _ c.refined_answer.ensures.done c.refined_answer.ensures.text (λ reply done t. (
      t.query ∷ narrowed_line a.narrowed ∷ (t.lines ++ count_lines (length a.sites) a.demanded),
      inr (
        record {
          narrowed = a.narrowed;
          sites = a.sites;
          demanded = a.demanded;
          answer = c.in-Ok.ensures.answer;
          affordable = c.in-Ok.ensures.within;
          told = subst (λ (x : List ℕ). IsRefinedText c.args.linked.now c.args.node a.narrowed a.sites a.demanded x) t.text_is t;
        },
        done,
      ),
      t.text_is,
    ))

pub returns-in-Err-OverBudget : goal.returns-in-Err-OverBudget
returns-in-Err-OverBudget g c =
    let spent = c.in-Err-OverBudget.budget in
    let a = c.in-Err-OverBudget.ensures.over spent (ap Err c.in-Err-OverBudget.field-0-is) in
    told (IsRefinedNodeReply c.args.linked.now (refined_of c.args.asked.now c.args.rounds) c.args.node) c.refused.result (status.OverBudget spent) (rw c.in-Err-OverBudget.field-0-is at c.refused.ensures)
    (inl (a.1, (ap status.OverBudget a.0, ap (λ b. refusal (status.OverBudget b) ∷ []) a.0)))
