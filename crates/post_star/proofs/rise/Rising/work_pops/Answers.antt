use Rattle.std.proofs.Common.{ap, sym, ◌∙◌, Some}
use Rattle.std.proofs.lemmas.Option.{slice_get-get_or}
use Rattle.post_star.proofs.Loops.{between_begins, between_goes, between_ends}
use Rattle.post_star.proofs.rise.Rising.work_pops.Goals as goal

pub loop-rule-init : goal.loop-rule-init
loop-rule-init g c = between_begins g.met.W.Weight.laws _ c.requires.told c.requires.sound c.args.group.now c.requires.listed c.args.self.now.items.items c.args.child c.args.parent

pub apply_between-requires-clause-listed : goal.apply_between-requires-clause-listed
apply_between-requires-clause-listed g c = c.requires.listed c.rule-item.result (c.loop-rule.rule-index, slice_get-get_or c.args.group.now c.loop-rule.rule-index c.rule-item.result c.loop-rule-test.true ∙ ap Some (sym c.rule-item.is))

pub loop-rule-preserved : goal.loop-rule-preserved
loop-rule-preserved g c = between_goes g.met.W.Weight.laws _ c.requires.told c.requires.sound c.args.group.now c.requires.listed c.loop-rule.rule-index c.rule-item.result (slice_get-get_or c.args.group.now c.loop-rule.rule-index c.rule-item.result c.loop-rule-test.true ∙ ap Some (sym c.rule-item.is)) c.loop-rule.invariant c.in_ok-apply_between.ensures.progress c.in_ok-apply_between.ensures.applied

pub returns-clause-applied : goal.returns-clause-applied
returns-clause-applied g c = between_ends g.met.W.Weight.laws _ c.requires.told c.requires.sound c.args.group.now c.requires.listed c.loop-rule.rule-index c.loop-rule-test.false c.loop-rule.invariant
