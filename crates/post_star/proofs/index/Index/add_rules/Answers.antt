use Rattle.std.proofs.Common.{subst, sym, ap, take, ◌∙◌, ◌++◌, ◌∷◌, []}
use Rattle.std.proofs.lemmas.List.{take_more, take_all}
use Rattle.post_star.specs.Index.{IsIndex}
use Rattle.post_star.proofs.index.Index.add_rules.Goals as goal

pub loop-i-init : goal.loop-i-init
loop-i-init g c = λ steps x. x

pub loop-i-preserved : goal.loop-i-preserved
loop-i-preserved g c = λ steps x. subst (λ xs. IsIndex xs steps c.add_rule.new.self) (ap (λ y. take c.loop-i.i c.args.rules.now ++ y ∷ []) c.index-rules-i.is ∙ sym (take_more c.args.rules.now c.loop-i.i c.index-rules-i.result c.loop-i-test.true)) (c.in_ok-add_rule.ensures _ steps (c.loop-i.invariant steps x))

pub returns : goal.returns
returns g c = λ steps x. subst (λ xs. IsIndex xs steps c.loop-i.self) (take_all c.loop-i.i c.args.rules.now c.loop-i-test.false) (c.loop-i.invariant steps x)
