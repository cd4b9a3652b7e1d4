use Rattle.std.proofs.Common.{◌≡◌, ◌∷◌, [], List, Some, map, drop, ◌+◌, ◌∙◌, sym, ap, subst, slice_get, add-one, drop-cons}
use Rattle.std.proofs.lemmas.List.{drop_all}
use Rattle.std.proofs.lemmas.Option.{slice_get-get_or}
use Rattle.jim_ast.specs.declared.syntax.Class.{Class}
use Rattle.link_rules.specs.Classes.{DeclaredClass, IsCompleted, ends}
use Rattle.link_rules.specs.Conditions.{class_names}
use Rattle.link_classes.specs.declared.names.AllNames.{AllNames}
use Rattle.link_classes.specs.Numbered.{AreNumbers}
use Rattle.link_classes.specs.Seen.{seen_classes}
use Rattle.link_classes.proofs.Naming.{completes}
use Rattle.link_classes.proofs.Within.{part_within}
use Rattle.link_classes.proofs.order.ClassOrder.add_new.Goals as goal

pub push_new-requires-clause-class : goal.push_new-requires-clause-class
push_new-requires-clause-class c =
    let item : slice_get c.args.program.now.classes c.loop-class.class-index ≡ Some c.class-item.result =
    subst (λ xs. slice_get xs c.loop-class.class-index ≡ Some c.class-item.result) c.as_slice-classes.ensures
    (slice_get-get_or c.as_slice-classes.result.now c.loop-class.class-index c.class-item.result c.loop-class-test.true ∙ ap Some (sym c.class-item.is)) in
    record {
      numbered = subst (λ ts. AreNumbers ts c.args.program.now.names c.args.ids.now) (ap (λ (a : AllNames). a.texts) (sym c.loop-class.invariant.names)) c.requires.numbered;
      within = part_within class_names c.args.program.now.names c.args.program.now.classes c.loop-class.class-index c.class-item.result c.requires.read.names item;
      read = λ m body has is. c.requires.read.bodies c.class-item.result m body (c.loop-class.class-index, item) has is;
    }

pub loop-class-preserved : goal.loop-class-preserved
loop-class-preserved c =
    let so_far = c.loop-class.invariant in
    let here = subst (λ x. drop c.loop-class.class-index c.as_slice-classes.result.now ≡ x ∷ drop (c.loop-class.class-index + 1) c.as_slice-classes.result.now) (sym c.class-item.is)
    (rw add-one (drop-cons c.as_slice-classes.result.now c.loop-class.class-index c.class-item.result c.loop-class-test.true)) in
    record {
      goes_on = λ all further. so_far.goes_on all
          (subst (λ xs. IsCompleted (seen_classes c.loop-class.self.classes.items) (map (λ k. record { names = c.args.program.now.names; class = k }) xs) all) (sym here)
          (completes _ _ _ all _ c.in_ok-push_new.ensures.put further));
      order = c.in_ok-push_new.ensures.order;
      names = c.in_ok-push_new.ensures.names ∙ so_far.names;
    }

pub returns-clause-completed : goal.returns-clause-completed
returns-clause-completed c =
    let all = seen_classes c.loop-class.self.classes.items in
    let made : List Class → List DeclaredClass = map (λ k. record { names = c.args.program.now.names; class = k }) in
    let none : drop c.loop-class.class-index c.as_slice-classes.result.now ≡ [] = drop_all c.loop-class.class-index c.as_slice-classes.result.now c.loop-class-test.false in
    subst (λ xs. IsCompleted (seen_classes c.args.self.now.classes.items) (made xs) all) c.as_slice-classes.ensures
    (c.loop-class.invariant.goes_on all (subst (λ xs. IsCompleted all (made xs) all) (sym none) ends))
