use Rattle.std.proofs.Common.{sym, ap, ◌∙◌, IsTrue, arith}
use Rattle.jim_grammar.specs.Grammar.{pair}
use Rattle.jim_stmts.specs.Leads.{lead_at}
use Rattle.jim_stmts.proofs.Repeats.{each_next, each_done}
use Rattle.jim_stmts.proofs.signatures.pairs.Goals as goal

pub loop-dims-preserved : goal.loop-dims-preserved
loop-dims-preserved c = record {
  within = omega arith;
  no_longer = omega arith;
  left = λ xs r h n. let e = each_next pair _ _ r (c.loop-dims.invariant.left xs r h n) (λ e. n (sym (ap lead_at e) ∙ c.is_at.ensures.0 c.if-is_at.true)) in record {
    left = e.1;
    rest = c.skip-in-loop-dims.ensures.rest _ _ (c.skip.ensures.rest _ _ e.2);
    so = omega (arith, e.3);
  };
}

pub returns-else-is_at-clause-pairs : goal.returns-else-is_at-clause-pairs
returns-else-is_at-clause-pairs c = λ xs r h n k.
    let d = each_done pair _ _ r (c.loop-dims.invariant.left xs r h n) (λ x s e. let o : IsTrue c.is_at.result = c.is_at.ensures.1 (ap lead_at e) in cc (o, c.if-is_at.false)) in omega (arith, d.1)

pub returns-else-is_at-clause-rest : goal.returns-else-is_at-clause-rest
returns-else-is_at-clause-rest c = λ xs r h n k.
    (each_done pair _ _ r (c.loop-dims.invariant.left xs r h n) (λ x s e. let o : IsTrue c.is_at.result = c.is_at.ensures.1 (ap lead_at e) in cc (o, c.if-is_at.false))).0
