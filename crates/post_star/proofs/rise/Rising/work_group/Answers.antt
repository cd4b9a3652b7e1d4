use Rattle.std.proofs.Common.{ap, sym, ◌∙◌, Some}
use Rattle.std.proofs.lemmas.Option.{slice_get-get_or}
use Rattle.post_star.proofs.Loops.{at_begins, at_goes, at_ends}
use Rattle.post_star.proofs.rise.Rising.work_group.Goals as goal

pub loop-rule-init : goal.loop-rule-init
loop-rule-init g c = at_begins g.met.W.Weight.laws _ c.requires.told c.requires.sound c.args.group.now c.requires.listed c.args.self.now.items.items c.args.entry

pub apply_at-requires-clause-listed : goal.apply_at-requires-clause-listed
apply_at-requires-clause-listed g c = c.requires.listed c.rule-item.result (c.loop-rule.rule-index, slice_get-get_or c.args.group.now c.loop-rule.rule-index c.rule-item.result c.loop-rule-test.true ∙ ap Some (sym c.rule-item.is))

pub loop-rule-preserved : goal.loop-rule-preserved
loop-rule-preserved g c = at_goes g.met.W.Weight.laws _ c.requires.told c.requires.sound c.args.group.now c.requires.listed c.loop-rule.rule-index c.rule-item.result (slice_get-get_or c.args.group.now c.loop-rule.rule-index c.rule-item.result c.loop-rule-test.true ∙ ap Some (sym c.rule-item.is)) c.loop-rule.invariant c.in_ok-apply_at.ensures.progress c.in_ok-apply_at.ensures.applied

pub returns-clause-applied : goal.returns-clause-applied
returns-clause-applied g c = at_ends g.met.W.Weight.laws _ c.requires.told c.requires.sound c.args.group.now c.requires.listed c.loop-rule.rule-index c.loop-rule-test.false c.loop-rule.invariant
