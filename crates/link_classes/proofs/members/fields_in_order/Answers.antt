use Rattle.std.proofs.Common.{◌++◌, ap, sym, ◌∙◌}
use Rattle.link_rules.specs.Classes.{fields_in}
use Rattle.link_classes.specs.Seen.{seen_class}
use Rattle.link_classes.proofs.Growing.{members_more}
use Rattle.link_classes.proofs.members.fields_in_order.Goals as goal

pub loop-number-preserved : goal.loop-number-preserved
loop-number-preserved c = record {
  so_far = c.in_ok-push_fields.ensures.pushed ∙ ap (λ xs. xs ++ fields_in c.loop-number.number (seen_class c.index-classes-number.result)) c.loop-number.invariant.so_far
      ∙ sym (members_more (λ k. fields_in k.0 k.1) c.as_slice-classes.result.now c.loop-number.number c.index-classes-number.result c.loop-number-test.true c.index-classes-number.is);
  few = c.in_ok-push_fields.ensures.few;
  known = c.in_ok-push_fields.ensures.known;
}
