use Rattle.std.proofs.Common.{subst, sym, ◌∙◌}
use Rattle.link_calls.specs.Receivers.{AreMarks}
use Rattle.link_calls.proofs.receivers.Receivers.new.Goals as goal

pub marks_of-requires : goal.marks_of-requires
marks_of-requires c = rw c.tree.ensures.classes at ((rw c.tree.ensures.rows at c.layout-layout.ensures).placed)

pub returns : goal.returns
returns c = record {
  as_many = c.tree.ensures.classes;
  laid = rw c.tree.ensures.rows at c.layout-layout.ensures;
  marks = subst (AreMarks c.args.classes.now.world c.layout-layout.result.places.now) (sym (c.in_ok-objects.ensures ∙ c.as_slice.ensures.value)) c.in_ok-marks.ensures;
}
