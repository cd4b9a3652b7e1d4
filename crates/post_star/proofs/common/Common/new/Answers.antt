use Rattle.std.proofs.Common.{[]}
use Rattle.post_star.proofs.common.Common.new.Goals as goal

pub invariant_of-result : goal.invariant_of-result
invariant_of-result g c = record {
  told = rw c.deref.ensures.value at c.tell_rules.ensures;
  led = c.requires.led;
  indexed =
      let steps = rw c.deref-2.ensures.value at c.in_ok-add_steps.ensures in
      let rules = rw c.deref-3.ensures.value at c.in_ok-add_rules.ensures in
      rules c.args.steps.items (steps [] c.new-index.ensures);
}
