use Rattle.explain_text.proofs.Shown.{shown_next, shown_none}
use Rattle.explain_text.proofs.showing.push_explanations.Goals as goal

pub loop-site-init : goal.loop-site-init
loop-site-init c = shown_none c.args.linked.now c.args.target _

pub loop-site-preserved : goal.loop-site-preserved
loop-site-preserved c = shown_next c.args.linked.now c.args.target _ _ _ _ _ _ c.loop-site-test.true c.loop-site.invariant c.in_ok-push_explanation.ensures

pub push_explanation-requires-clause-answered : goal.push_explanation-requires-clause-answered
push_explanation-requires-clause-answered c = c.requires.answered c.loop-site.site-index _ c.loop-site-test.true
