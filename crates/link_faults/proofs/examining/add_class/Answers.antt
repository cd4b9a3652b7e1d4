use Rattle.std.proofs.Common.{[], ◌∷◌, subst}
use Rattle.link_rules.specs.Classes.{IsNamed}
use Rattle.link_rules.specs.Names.{text_of}
use Rattle.link_classes.specs.Seen.{seen_method}
use Rattle.link_faults.proofs.Growing.{grows, named_last, stays}
use Rattle.link_faults.proofs.Named.{LooksUp, none_named}
use Rattle.link_faults.proofs.examining.add_class.Goals as goal

pub returns-in_ok-push : goal.returns-in_ok-push
returns-in_ok-push c =
    let classes = c.args.classes.now.world.classes in
    let name = text_of (seen_method c.args.method.now).names c.args.class in
    let says = subst (LooksUp classes name) c.in-Some.is c.class_number.ensures in
    grows c.args.touched.now.items (c.in-Some.number ∷ []) c.push.new.self.items (IsNamed classes name) c.in_ok-push.ensures.items (named_last classes name c.in-Some.number says)

pub returns-in_default : goal.returns-in_default
returns-in_default c =
    let classes = c.args.classes.now.world.classes in
    let name = text_of (seen_method c.args.method.now).names c.args.class in
    let says = subst (LooksUp classes name) c.in_default.is c.class_number.ensures in
    stays c.args.touched.now.items (IsNamed classes name) (λ n h. none_named classes name says (n, h))
