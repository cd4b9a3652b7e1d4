use Rattle.std.proofs.Common.{subst, sym}
use Rattle.std.proofs.lemmas.List.{take_more, take_all}
use Rattle.post_star.specs.Index.{IsIndex}
use Rattle.post_star.proofs.index.Index.add_steps.Goals as goal

pub loop-i-init : goal.loop-i-init
loop-i-init g c = λ rules x. x

pub loop-i-preserved : goal.loop-i-preserved
loop-i-preserved g c = λ rules x. subst (λ xs. IsIndex rules xs c.add_step.new.self) (sym (take_more c.args.steps.now c.loop-i.i _ c.loop-i-test.true)) (c.in_ok-add_step.ensures rules _ (c.loop-i.invariant rules x))

pub returns : goal.returns
returns g c = λ rules x. subst (λ xs. IsIndex rules xs c.loop-i.self) (take_all c.loop-i.i c.args.steps.now c.loop-i-test.false) (c.loop-i.invariant rules x)
