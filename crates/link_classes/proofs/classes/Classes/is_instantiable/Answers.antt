use Rattle.std.proofs.Common.{◌≡◌, ◌<◌, Some, length, slice_get, subst, sym, arith}
use Rattle.std.proofs.lemmas.List.{length-map}
use Rattle.link_rules.specs.Targets.{IsInstantiable}
use Rattle.link_classes.specs.Classes.{ClassTable}
use Rattle.link_classes.specs.Seen.{seen_class, seen_classes}
use Rattle.link_classes.proofs.Growing.{seen_there}
use Rattle.link_classes.proofs.classes.Classes.is_instantiable.Goals as goal

pub returns : goal.returns
returns c =
    let classes = c.self.inside.order.classes.items in
    let class = c.index-class.result.now in
    let below : c.args.number < length classes = (let within : c.args.number < length (seen_classes classes) = subst (λ (t : ClassTable). c.args.number < length t.world.classes) (sym c.self.view_is) c.requires in
    omega (arith, within, length-map classes seen_class)) in
    let there : slice_get (seen_classes classes) c.args.number ≡ Some (seen_class class) = seen_there classes c.args.number class below c.index-class.ensures in
    rw (← c.self.view_is) (
      λ t. record { class = seen_class class; there = there; instantiable = c.is_instantiable.ensures.0 t },
      λ h. (let same : h.class ≡ seen_class class = cc (there, h.there) in c.is_instantiable.ensures.1 (subst IsInstantiable same h.instantiable)),
    )
