use Rattle.std.proofs.Common.{[], ◌∷◌, ◌∙◌, append_assoc}
use Rattle.jim_step.proofs.Constants.{constants_next}
use Rattle.link_sites.specs.declared.site.Site.TheVariants as site
use Rattle.step_rules.specs.Runs.{constants}
use Rattle.step_rules.specs.States.{new_object}
use Rattle.jim_step.proofs.starting.add_texts.Goals as goal

pub loop-number-preserved : goal.loop-number-preserved
loop-number-preserved c = c.in_ok-push.ensures.ok ∙ rw (c.loop-number.invariant, constants_next (λ i. site.Text i) c.args.class c.loop-number.number)
    (append_assoc c.args.heap.now (constants (λ i. site.Text i) c.args.class c.loop-number.number) (new_object (site.Text c.loop-number.number) c.args.class ∷ []))
