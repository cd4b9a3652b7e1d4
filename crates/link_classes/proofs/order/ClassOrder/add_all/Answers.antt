use Rattle.std.proofs.Common.{◌≡◌, Some, ◌∙◌, sym, ap, subst, slice_get}
use Rattle.std.proofs.lemmas.Option.{slice_get-get_or}
use Rattle.link_rules.specs.Conditions.{class_names}
use Rattle.link_classes.specs.declared.names.AllNames.{AllNames}
use Rattle.link_classes.specs.Numbered.{AreNumbers}
use Rattle.link_classes.proofs.Within.{part_within}
use Rattle.link_classes.proofs.order.ClassOrder.add_all.Goals as goal

pub push-requires-clause-class : goal.push-requires-clause-class
push-requires-clause-class c =
    let item : slice_get c.args.program.now.classes c.loop-class.class-index ≡ Some c.class-item.result =
    subst (λ xs. slice_get xs c.loop-class.class-index ≡ Some c.class-item.result) c.as_slice-classes.ensures
    (slice_get-get_or c.as_slice-classes.result.now c.loop-class.class-index c.class-item.result c.loop-class-test.true ∙ ap Some (sym c.class-item.is)) in
    record {
      numbered = subst (λ ts. AreNumbers ts c.args.program.now.names c.args.ids.now) (ap (λ (a : AllNames). a.texts) (sym c.loop-class.invariant.names)) c.requires.numbered;
      within = part_within class_names c.args.program.now.names c.args.program.now.classes c.loop-class.class-index c.class-item.result c.requires.read.names item;
      read = λ m body has is. c.requires.read.bodies c.class-item.result m body (c.loop-class.class-index, item) has is;
    }
