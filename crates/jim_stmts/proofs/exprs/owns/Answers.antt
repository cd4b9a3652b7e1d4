use Rattle.std.proofs.Common.{sym, ap, ◌∙◌, IsTrue, arith}
use Rattle.jim_grammar.specs.Grammar.{own}
use Rattle.jim_stmts.specs.Leads.{lead_at}
use Rattle.jim_stmts.proofs.Repeats.{each_next, each_done}
use Rattle.jim_stmts.proofs.Sizes.{counted_step, sized_behind-none}
use Rattle.jim_stmts.proofs.exprs.owns.Goals as goal

pub loop-sizes-preserved : goal.loop-sizes-preserved
loop-sizes-preserved c = record {
  within = omega (arith, c.counted-sizes.ensures.total);
  no_longer = omega arith;
  left = λ xs r h n.
      let e = each_next own _ _ r (c.loop-sizes.invariant.left xs r h n) (λ e. n (sym (ap lead_at e) ∙ c.is_at.ensures.0 c.if-is_at.true)) in
      record {
        left = e.1;
        rest = c.own.ensures.rest e.0 _ e.2;
        so = counted_step xs _ _ _ _ e.0 e.1 _ e.3 (c.own.ensures.given e.0 _ e.2) c.counted-sizes.ensures.first c.counted-sizes.ensures.left_out c.counted-sizes.ensures.behind;
      };
}

pub returns-else-is_at-clause-owns : goal.returns-else-is_at-clause-owns
returns-else-is_at-clause-owns c = λ xs r h n k.
    let d = each_done own _ _ r (c.loop-sizes.invariant.left xs r h n) (λ x s e. let o : IsTrue c.is_at.result = c.is_at.ensures.1 (ap lead_at e) in cc (o, c.if-is_at.false)) in
    let none = sized_behind-none c.loop-sizes.sizes.others in
    (omega (arith, d.1.sizes, none), omega (arith, d.1.total))

pub returns-else-is_at-clause-rest : goal.returns-else-is_at-clause-rest
returns-else-is_at-clause-rest c = λ xs r h n k.
    (each_done own _ _ r (c.loop-sizes.invariant.left xs r h n) (λ x s e. let o : IsTrue c.is_at.result = c.is_at.ensures.1 (ap lead_at e) in cc (o, c.if-is_at.false))).0
