use Rattle.std.proofs.Common.{ℕ, List, subst, sym}
use Rattle.link_rules.specs.Classes.{methods_of}
use Rattle.link_rules.specs.Keys.{IsMethodKeyNumber, called_key}
use Rattle.link_rules.specs.Names.{text_of}
use Rattle.link_classes.specs.Classes.{ClassTable, texts_at}
use Rattle.link_classes.specs.Seen.{seen_method}
use Rattle.link_faults.proofs.Named.{LooksUp, named, named_below, none_named, only_named}
use Rattle.link_faults.proofs.callees.callee_of.Goals as goal

pub returns-in_default-clause-callee : goal.returns-in_default-clause-callee
returns-in_default-clause-callee c =
    let name = text_of (seen_method c.args.method.now).names c.args.call.now.sig.now.class in
    let says = subst (λ (t : ClassTable). LooksUp t.world.classes name c.class_number.result) c.classes-classes.ensures c.class_number.ensures in
    none_named c.args.targets.now.world.classes name (subst (LooksUp c.args.targets.now.world.classes name) c.in_default.is says)

pub found-requires : goal.found-requires
found-requires c =
    let name = text_of (seen_method c.args.method.now).names c.args.call.now.sig.now.class in
    let says = subst (λ (t : ClassTable). LooksUp t.world.classes name c.class_number.result) c.classes-classes.ensures c.class_number.ensures in
    named_below c.args.targets.now.world.classes name c.in-Some.class (subst (LooksUp c.args.targets.now.world.classes name) c.in-Some.is says)

pub returns-clause-callee : goal.returns-clause-callee
returns-clause-callee c =
    let classes = c.args.targets.now.world.classes in
    let m = c.args.method.now in
    let call = c.args.call.now in
    let name = text_of (seen_method m).names call.sig.now.class in
    let says = subst (LooksUp classes name) c.in-Some.is (subst (λ (t : ClassTable). LooksUp t.world.classes name c.class_number.result) c.classes-classes.ensures c.class_number.ensures) in
    let key = subst (λ (t : ClassTable). IsMethodKeyNumber (methods_of t.world.classes) (called_key (texts_at t.texts m.ids.now) call.mode call.sig.now) c.in_ok-key.key) c.classes-classes.ensures c.in_ok-key.ensures in
    let is_key = subst (λ (texts : List (List ℕ)). IsMethodKeyNumber (methods_of classes) (called_key (texts_at texts m.ids.now) call.mode call.sig.now) c.in_ok-key.key) (sym c.requires.known.all) key in
    record {
      named = record { is_class = named classes name c.in-Some.class says; is_key = is_key };
      only_class = only_named classes name c.in-Some.class says;
      within = c.in_ok-found.ensures.within;
      rows = c.in_ok-found.ensures.found.targets.each;
      is_several = c.in_ok-found.ensures.found.is_several;
    }
