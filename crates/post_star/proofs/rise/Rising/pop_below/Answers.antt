use Rattle.std.proofs.Common.{ap, refl, ◌∙◌}
use Rattle.std.proofs.lemmas.Bool.{false≢true}
use Rattle.std.proofs.lemmas.Option.{slice_get-get_or}
use Rattle.post_star.specs.declared.key.Key.TheVariants.{Marked}
use Rattle.post_star.proofs.Applies.{base_begins, base_skips, base_goes, base_applied}
use Rattle.post_star.proofs.Loops.{listed_in, found_in}
use Rattle.post_star.proofs.rise.Rising.pop_below.Goals as goal
use Rattle.post_star.proofs.rise.Rising.pop_below.Goals.{then-leads_from+in_ok-rise, else-leads_from}

pub loop-step-init : goal.loop-step-init
loop-step-init g c = base_begins g.met.W.Weight.laws _ c.requires.told c.requires.sound _ _ _ _ c.args.pop.weight _ c.requires.listed
    (c.extend-reached.ensures ∙ ap (λ x. g.W.Weight.domain.extend x c.args.pop.weight) c.at.ensures) c.at-below.result.now (listed_in c.args.system.now.common.index.now.below (Marked c.args.base c.args.pop.mark) c.requires.index.common.below c.at-below.ensures) (λ b h. found_in c.args.system.now.common.index.now.below (Marked c.args.base c.args.pop.mark) c.at-below.ensures _ (c.requires.index.common.below.all _ _ h refl)) _

pub loop-step-preserved : goal.loop-step-preserved
loop-step-preserved g c = elim c.if-leads_from.branch [
  | then-leads_from+in_ok-rise w ↦ rw (w.self-is) (base_goes g.met.W.Weight.laws _ c.requires.told c.requires.sound _ _ _ _ c.args.pop.weight _ c.requires.listed
      (c.extend-reached.ensures ∙ ap (λ x. g.W.Weight.domain.extend x c.args.pop.weight) c.at.ensures) c.at-below.result.now (listed_in c.args.system.now.common.index.now.below (Marked c.args.base c.args.pop.mark) c.requires.index.common.below c.at-below.ensures) (λ b h. found_in c.args.system.now.common.index.now.below (Marked c.args.base c.args.pop.mark) c.at-below.ensures _ (c.requires.index.common.below.all _ _ h refl))
      _ _ (slice_get-get_or c.at-below.result.now c.loop-step.step-index _ c.loop-step-test.true) (w.if-leads_from.ensures.0 refl) c.loop-step.invariant w.in_ok-rise.ensures)
  | else-leads_from w ↦ rw (w.self-is) (base_skips g.met.W.Weight.laws _ c.requires.told c.requires.sound _ _ _ _ c.args.pop.weight _ c.requires.listed
      (c.extend-reached.ensures ∙ ap (λ x. g.W.Weight.domain.extend x c.args.pop.weight) c.at.ensures) c.at-below.result.now (listed_in c.args.system.now.common.index.now.below (Marked c.args.base c.args.pop.mark) c.requires.index.common.below c.at-below.ensures) (λ b h. found_in c.args.system.now.common.index.now.below (Marked c.args.base c.args.pop.mark) c.at-below.ensures _ (c.requires.index.common.below.all _ _ h refl))
      _ _ (slice_get-get_or c.at-below.result.now c.loop-step.step-index _ c.loop-step-test.true) (λ h. false≢true (w.if-leads_from.ensures.1 h)) c.loop-step.invariant)
]

pub returns-clause-progress : goal.returns-clause-progress
returns-clause-progress g c = c.loop-step.invariant.progress

pub returns-clause-applied : goal.returns-clause-applied
returns-clause-applied g c = base_applied g.met.W.Weight.laws _ c.requires.told c.requires.sound _ _ _ _ c.args.pop.weight _ c.requires.listed
    (c.extend-reached.ensures ∙ ap (λ x. g.W.Weight.domain.extend x c.args.pop.weight) c.at.ensures) c.at-below.result.now (listed_in c.args.system.now.common.index.now.below (Marked c.args.base c.args.pop.mark) c.requires.index.common.below c.at-below.ensures) (λ b h. found_in c.args.system.now.common.index.now.below (Marked c.args.base c.args.pop.mark) c.at-below.ensures _ (c.requires.index.common.below.all _ _ h refl)) c.loop-step.step-index c.loop-step-test.false c.loop-step.invariant
