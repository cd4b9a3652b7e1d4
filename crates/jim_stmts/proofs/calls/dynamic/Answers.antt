use Rattle.std.proofs.Common.{◌∙◌, ap, IsTrue, arith}
use Rattle.jim_grammar.specs.declared.set.LeadSet.TheVariants.{NotEnds}
use Rattle.jim_grammar.specs.Expressions.{One}
use Rattle.jim_stmts.specs.Leads.{lead_at}
use Rattle.jim_stmts.proofs.Choices.{goes_on-not_end, goes_on-left, goes_on-other}
use Rattle.jim_stmts.proofs.Repeats.{each_next, each_done}
use Rattle.jim_stmts.proofs.calls.dynamic.Goals as goal

pub loop-reader-init : goal.loop-reader-init
loop-reader-init c = record {
  no_longer = omega arith;
  left = λ x r h p. record { left = x.1.0; rest = c.skip.ensures.rest _ _ h; so = tt };
}

pub loop-reader-smaller : goal.loop-reader-smaller
loop-reader-smaller c =
    let left = goes_on-left c.loop-reader.reader (c.goes_on.ensures.0 c.loop-reader-test.true) in
    omega (arith, c.skip-in-loop-reader.ensures.shorter)

pub loop-reader-preserved : goal.loop-reader-preserved
loop-reader-preserved c = record {
  no_longer = omega arith;
  left = λ x r h p. let e = each_next (One NotEnds) _ _ r (c.loop-reader.invariant.left x r h p) (λ e. goes_on-not_end _ (c.goes_on.ensures.0 c.loop-reader-test.true) (ap lead_at e ∙ p)) in
      record { left = e.1; rest = c.skip-in-loop-reader.ensures.rest _ _ e.2; so = tt };
}

pub returns-clause-rest : goal.returns-clause-rest
returns-clause-rest c = λ x r h p.
    (each_done (One NotEnds) _ _ r (c.loop-reader.invariant.left x r h p) (λ y s e. let o : IsTrue c.goes_on.result = c.goes_on.ensures.1 (goes_on-other y _ s e) in cc (o, c.loop-reader-test.false))).0
