use Rattle.std.proofs.Common.{subst, inl, inr}
use Rattle.std.proofs.lemmas.Bool.{both_ways}
use Rattle.link_rules.specs.Names.{text_of}
use Rattle.link_classes.specs.Seen.{seen_class, seen_method}
use Rattle.link_faults.proofs.Named.{LooksUp, concrete_none, named_below, not_concrete_by}
use Rattle.link_faults.proofs.mentioned.is_not_concrete.Goals as goal

pub returns-in_default : goal.returns-in_default
returns-in_default c =
    let w = c.args.classes.now.world in
    let name = text_of (seen_method c.args.method.now).names c.args.class in
    concrete_none w name (subst (LooksUp w.classes name) c.in_default.is c.class_number.ensures)

pub class-requires : goal.class-requires
class-requires c =
    let w = c.args.classes.now.world in
    let name = text_of (seen_method c.args.method.now).names c.args.class in
    named_below w.classes name c.in-Some.number (subst (LooksUp w.classes name) c.in-Some.is c.class_number.ensures)

pub returns-then-class : goal.returns-then-class
returns-then-class c =
    let w = c.args.classes.now.world in
    let name = text_of (seen_method c.args.method.now).names c.args.class in
    not_concrete_by w name c.in-Some.number (seen_class c.class.result) (subst (LooksUp w.classes name) c.in-Some.is c.class_number.ensures) c.class.ensures c.class.result.class.now.interface
    (λ e. inl e, λ _. c.if-class.true)

pub returns-else-class : goal.returns-else-class
returns-else-class c =
    let w = c.args.classes.now.world in
    let name = text_of (seen_method c.args.method.now).names c.args.class in
    not_concrete_by w name c.in-Some.number (seen_class c.class.result) (subst (LooksUp w.classes name) c.in-Some.is c.class_number.ensures) c.class.ensures c.class.result.class.now.is_abstract
    (λ e. inr e, λ h. elim h [ inl interface ↦ absurd (both_ways c.class.result.class.now.interface c.if-class.false interface) | inr abstract ↦ abstract ])
