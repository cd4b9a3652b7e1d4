use Rattle.std.proofs.Common.{◌≡◌, ◌<◌, ℕ, Some, [], List, length, get_or, slice_get, subst, sym, arith}
use Rattle.std.proofs.lemmas.List.{length-map}
use Rattle.std.proofs.lemmas.Option.{get_or_from_slice_get}
use Rattle.link_rules.specs.Classes.{DeclaredClass, class_name}
use Rattle.link_classes.specs.Classes.{ClassTable}
use Rattle.link_classes.specs.Seen.{IsSeen, seen_class, seen_classes}
use Rattle.link_classes.specs.declared.seen.ClassIn.{ClassIn}
use Rattle.link_classes.proofs.Growing.{seen_there}
use Rattle.link_classes.proofs.classes.Classes.class_name.Goals as goal

-- a class there is as it is seen
seen_at : (texts : List (List ℕ)) (classes : List ClassIn) (i : ℕ) (c : ClassIn) → ((k : ℕ) (d : ClassIn) → k < length classes → IsSeen texts (get_or classes k d)) → i < length classes
    → c ≡ get_or classes i c → IsSeen texts c
seen_at texts classes i c all below e = subst (IsSeen texts) (sym e) (all i c below)

-- the name of a class by its number
named : (classes : List DeclaredClass) (i : ℕ) (a c : DeclaredClass) (text : List ℕ) → slice_get classes i ≡ Some a → slice_get classes i ≡ Some c → slice_get a.names a.class.name.0 ≡ Some text → text ≡ class_name c
named classes i a c text p q there = let same : a ≡ c = cc (p, q) in subst (λ (x : DeclaredClass). text ≡ class_name x) same (sym (get_or_from_slice_get a.names a.class.name.0 text [] there))

pub text-requires : goal.text-requires
text-requires c =
    let classes = c.self.inside.order.classes.items in
    let below : c.args.number < length classes = (let within : c.args.number < length (seen_classes classes) = subst (λ (t : ClassTable). c.args.number < length t.world.classes) (sym c.self.view_is) c.requires in
    omega (arith, within, length-map classes seen_class)) in
    let seen = seen_at c.self.inside.order.all.now.texts classes c.args.number c.index-class.result.now c.self.invariant.order.seen below c.index-class.ensures in
    seen.within 0 c.index-class.result.now.class.now.name (omega arith)

pub returns : goal.returns
returns c = rw (← c.self.view_is) (λ d there.
    let classes = c.self.inside.order.classes.items in
    let class = c.index-class.result.now in
    let below : c.args.number < length classes = (let within : c.args.number < length (seen_classes classes) = subst (λ (t : ClassTable). c.args.number < length t.world.classes) (sym c.self.view_is) c.requires in
    omega (arith, within, length-map classes seen_class)) in
    named (seen_classes classes) c.args.number (seen_class class) d c.text.result.now (seen_there classes c.args.number class below c.index-class.ensures) there c.text.ensures)
