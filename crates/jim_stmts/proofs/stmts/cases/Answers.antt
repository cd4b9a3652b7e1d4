use Rattle.std.proofs.Common.{◌≡◌, refl, sym, ap, ◌∙◌, IsTrue, arith, append_assoc, append-nil}
use Rattle.jim_text.specs.declared.lead.Lead.TheVariants as lead
use Rattle.jim_grammar.specs.Grammar.{case_line}
use Rattle.jim_stmts.specs.Leads.{lead_at}
use Rattle.jim_stmts.proofs.Drops.{left_where_lead}
use Rattle.jim_stmts.proofs.Repeats.{each_next, each_done}
use Rattle.jim_stmts.proofs.stmts.cases.Goals as goal

pub loop-labels-init : goal.loop-labels-init
loop-labels-init c = record {
  no_longer = omega arith;
  left = λ xs r h n. record { left = xs; rest = h; so = rw c.new-labels.ensures.items refl };
}

pub loop-labels-smaller : goal.loop-labels-smaller
loop-labels-smaller c =
    let begins : lead_at c.loop-labels.reader ≡ lead.Case = c.is_at.ensures.0 c.loop-labels-test.true in
    let left = left_where_lead c.loop-labels.reader (λ e. cc) in
    omega (arith, c.case.ensures.shorter)

pub loop-labels-preserved : goal.loop-labels-preserved
loop-labels-preserved c = record {
  no_longer = (
      let begins : lead_at c.loop-labels.reader ≡ lead.Case = c.is_at.ensures.0 c.loop-labels-test.true in
      let left = left_where_lead c.loop-labels.reader (λ e. cc) in
      omega (arith, c.case.ensures.shorter));
  left = λ xs r h n.
      let e = each_next case_line _ _ r (c.loop-labels.invariant.left xs r h n) (λ e. n (sym (ap lead_at e) ∙ c.is_at.ensures.0 c.loop-labels-test.true)) in
      record {
        left = e.1;
        rest = c.case.ensures.rest e.0 _ e.2;
        so = rw (c.in_ok-push.ensures.items, c.case.ensures.label e.0 _ e.2, append_assoc) e.3;
      };
}

pub returns-clause-labels : goal.returns-clause-labels
returns-clause-labels c = λ xs r h n.
    let d = each_done case_line _ _ r (c.loop-labels.invariant.left xs r h n) (λ x s e. let o : IsTrue c.is_at.result = c.is_at.ensures.1 (ap lead_at e) in cc (o, c.loop-labels-test.false)) in
    sym (rw append-nil at d.1)

pub returns-clause-rest : goal.returns-clause-rest
returns-clause-rest c = λ xs r h n.
    (each_done case_line _ _ r (c.loop-labels.invariant.left xs r h n) (λ x s e. let o : IsTrue c.is_at.result = c.is_at.ensures.1 (ap lead_at e) in cc (o, c.loop-labels-test.false))).0
