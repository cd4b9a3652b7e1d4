use Rattle.std.proofs.Common.{ℕ, List, subst, sym}
use Rattle.class_rules.specs.Lookups.{FieldOf}
use Rattle.link_rules.specs.Classes.{fields_of}
use Rattle.link_rules.specs.Keys.{IsFieldKeyNumber, accessed_key}
use Rattle.link_classes.specs.Classes.{texts_at}
use Rattle.link_rules.specs.Names.{text_of}
use Rattle.link_classes.specs.Seen.{seen_method}
use Rattle.link_faults.specs.Parts.{seen_access}
use Rattle.link_faults.proofs.Named.{LooksUp, finds_no_by, finds_no_none, named_below}
use Rattle.link_faults.proofs.mentioned.finds_no_field.Goals as goal

pub returns-in_default : goal.returns-in_default
returns-in_default c =
    let w = c.args.classes.now.world in
    let names = (seen_method c.args.method.now).names in
    let name = text_of names c.args.access.sig.class in
    finds_no_none w names (seen_access c.args.access) (subst (LooksUp w.classes name) c.in_default.is c.class_number.ensures)

pub find_field-requires-clause-class : goal.find_field-requires-clause-class
find_field-requires-clause-class c =
    let w = c.args.classes.now.world in
    let name = text_of (seen_method c.args.method.now).names c.args.access.sig.class in
    named_below w.classes name c.in-Some.class (subst (LooksUp w.classes name) c.in-Some.is c.class_number.ensures)

pub returns : goal.returns
returns c =
    let w = c.args.classes.now.world in
    let m = c.args.method.now in
    let a = seen_access c.args.access in
    let name = text_of (seen_method m).names a.sig.class in
    let found = subst (λ (texts : List (List ℕ)). (key : ℕ) × IsFieldKeyNumber (fields_of w.classes) (accessed_key (texts_at texts m.ids.now) a.is_static a.sig) key × FieldOf w.rows c.in-Some.class key c.find_field.result)
    (sym c.requires.known.all) c.find_field.ensures.found in
    finds_no_by w (seen_method m).names a c.in-Some.class c.find_field.result c.is_none.result (subst (LooksUp w.classes name) c.in-Some.is c.class_number.ensures) found c.is_none.ensures
