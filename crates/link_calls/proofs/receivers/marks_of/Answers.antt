use Rattle.std.proofs.Common.{◌<◌, length, refl, sym, ◌∙◌, true≢false, arith}
use Rattle.link_calls.proofs.Marked.{marked_all, marked_more, marked_skipped}
use Rattle.link_calls.proofs.receivers.marks_of.Goals as goal
use Rattle.link_calls.proofs.receivers.marks_of.Goals.{then-is_instantiable, else-is_instantiable}

pub loop-class-preserved : goal.loop-class-preserved
loop-class-preserved c =
    let world = c.args.classes.now.world in
    let at = c.loop-class in
    let known : at.class < length world.classes = omega (arith, c.loop-class-test.true, c.class_count-class-end.ensures) in
    elim c.if-is_instantiable.branch [
      | then-is_instantiable w ↦ rw w.marks-is (marked_more world c.args.places.now at.class c.requires known at.marks.items at.invariant _ refl (c.is_instantiable.ensures.0 w.if-is_instantiable.true))
      | else-is_instantiable w ↦ rw w.marks-is (marked_skipped world c.args.places.now at.class c.requires known at.marks.items at.invariant (λ is. true≢false (sym (c.is_instantiable.ensures.1 is) ∙ w.if-is_instantiable.false)))
    ]

pub returns : goal.returns
returns c =
    let at = c.loop-class in
    marked_all c.args.classes.now.world c.args.places.now at.class at.marks.items c.requires.len (omega (arith, c.loop-class-test.false, c.class_count-class-end.ensures)) at.invariant
