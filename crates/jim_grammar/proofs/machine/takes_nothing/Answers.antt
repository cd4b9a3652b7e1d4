use Rattle.std.proofs.Common.{IsTrue, ◌∙◌, refl, arith}
use Rattle.jim_grammar.proofs.Ends.{takes_at, takes_none}
use Rattle.jim_grammar.proofs.machine.takes_nothing.Goals as goal

pub returns-then-branch : goal.returns-then-branch
returns-then-branch c = ((λ x. takes_at c.args.old.now c.loop-stack.stack-index c.stack-item.result _ (omega arith) c.stack-item.is (c.in_ok-left.ensures ∙ c.deref.ensures.value) (c.in_ok-all_empty.ensures.0 c.if-branch.true)), λ k. refl)

pub loop-stack-preserved : goal.loop-stack-preserved
loop-stack-preserved c = takes_none c.args.old.now c.loop-stack.stack-index c.stack-item.result _ (omega arith) c.stack-item.is (c.in_ok-left.ensures ∙ c.deref.ensures.value) c.loop-stack.invariant (λ r. let e : IsTrue c.in_ok-all_empty.field-0 = c.in_ok-all_empty.ensures.1 r in cc (e, c.if-branch.false))
