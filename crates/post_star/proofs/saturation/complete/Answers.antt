use Rattle.std.proofs.Common.{◌∙◌, ◌++◌, ap, sym, Some, true, refl}
use Rattle.std.proofs.lemmas.List.{append-nil, take_all}
use Rattle.std.proofs.lemmas.Option.{slice_get-get_or}
use Rattle.post_star.specs.Derivations.{by_start}
use Rattle.post_star.proofs.Jobs.{grown}
use Rattle.post_star.proofs.saturation.complete.Goals as goal

pub loop-rule-init : goal.loop-rule-init
loop-rule-init g c = record { steps = refl; last = refl; rules = sym (append-nil c.args.work.now.rules); starts = refl }

pub loop-rule-preserved : goal.loop-rule-preserved
loop-rule-preserved g c = record {
  steps = ap (λ j. j.steps) c.in_ok-add_rule.ensures.ok ∙ c.loop-rule.invariant.steps;
  last = ap (λ j. j.last) c.in_ok-add_rule.ensures.ok ∙ c.loop-rule.invariant.last;
  rules = ap (λ j. j.rules) c.in_ok-add_rule.ensures.ok ∙ grown c.args.work.now.rules c.args.rules.now c.loop-rule.work.rules c.loop-rule.rule-index c.rule-item.result c.loop-rule.invariant.rules c.rule-item.is c.loop-rule-test.true;
  starts = ap (λ j. j.starts) c.in_ok-add_rule.ensures.ok ∙ c.loop-rule.invariant.starts;
}

pub loop-start-init : goal.loop-start-init
loop-start-init g c = record {
  steps = c.loop-rule.invariant.steps;
  last = c.loop-rule.invariant.last;
  rules = c.loop-rule.invariant.rules ∙ ap (λ xs. c.args.work.now.rules ++ xs) (take_all c.loop-rule.rule-index c.args.rules.now c.loop-rule-test.false);
  starts = c.loop-rule.invariant.starts ∙ sym (append-nil c.args.work.now.starts);
}

pub add_start-requires : goal.add_start-requires
add_start-requires g c =
    rw (c.loop-start.invariant.steps, c.loop-start.invariant.last) (record { led = c.requires.led c.start-item.result.base (by_start c.start-item.result (c.loop-start.start-index, (slice_get-get_or c.args.starts.now c.loop-start.start-index c.start-item.result c.loop-start-test.true ∙ ap Some (sym c.start-item.is))) refl) })

pub loop-start-preserved : goal.loop-start-preserved
loop-start-preserved g c = record {
  steps = ap (λ j. j.steps) c.in_ok-add_start.ensures.ok ∙ c.loop-start.invariant.steps;
  last = ap (λ j. j.last) c.in_ok-add_start.ensures.ok ∙ c.loop-start.invariant.last;
  rules = ap (λ j. j.rules) c.in_ok-add_start.ensures.ok ∙ c.loop-start.invariant.rules;
  starts = ap (λ j. j.starts) c.in_ok-add_start.ensures.ok ∙ grown c.args.work.now.starts c.args.starts.now c.loop-start.work.starts c.loop-start.start-index c.start-item.result c.loop-start.invariant.starts c.start-item.is c.loop-start-test.true;
}

pub returns : goal.returns
returns g c =
    let starts = c.loop-start.invariant.starts ∙ ap (λ xs. c.args.work.now.starts ++ xs) (take_all c.loop-start.start-index c.args.starts.now c.loop-start-test.false) in
    c.in_ok-settle.ensures.ok ∙ (λ i. record {
      steps = c.loop-start.invariant.steps i;
      last = c.loop-start.invariant.last i;
      rules = c.loop-start.invariant.rules i;
      starts = starts i;
      settled = true;
    })
