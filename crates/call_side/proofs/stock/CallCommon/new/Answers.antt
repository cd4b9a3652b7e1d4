use Rattle.std.proofs.Common.{[]}
use Rattle.call_side.proofs.Coding.{all_led, rules_coded}
use Rattle.call_side.proofs.stock.CallCommon.new.Goals as goal

pub new-requires : goal.new-requires
new-requires c = record {
  led = rw (c.in_ok-split_steps.ensures, c.bases-split_bases.ensures.steps, c.bases-split_bases.ensures.last, c.split.ensures.last)
      (all_led [] c.args.bases.now.steps c.args.bases.now.last [] c.split.result.now.steps c.split.ensures.coded [] (λ s has. cc has.1) c.requires.led);
}

pub invariant_of-result : goal.invariant_of-result
invariant_of-result c =
    let below = rw c.deref.ensures.value at (c.rules_fit.ensures.0 c.if-not-rules_fit.false) in
    rw (
      c.in_ok-split.ensures.ok,
      c.in_ok-common.ensures,
      c.in_ok-steps.ensures,
      c.steps.ensures,
      c.in_ok-split_steps.ensures,
      c.bases-split_bases.ensures.steps,
      c.bases-split_bases.ensures.last,
      c.split.ensures.last,
    )
    (rules_coded c.args.rules.items c.in_ok-split_rules.split_rules.items c.args.bases.now.steps c.split.result.now.steps c.args.bases.now.last below c.split.ensures.coded
    (rw c.deref-2.ensures.value at c.in_ok-split_rules.ensures))
