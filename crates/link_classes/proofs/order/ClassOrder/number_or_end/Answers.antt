use Rattle.std.proofs.Common.{◌≡◌, ◌<◌, Some, length, ◌∙◌, sym, ap, subst, arith, slice_get}
use Rattle.std.specs.Option.{unwrap_or}
use Rattle.link_rules.specs.World.{IsClassNumber}
use Rattle.std.proofs.lemmas.List.{length-map}
use Rattle.std.proofs.lemmas.Option.{slice_get-get_or}
use Rattle.link_classes.specs.Seen.{seen_class, seen_classes}
use Rattle.link_classes.proofs.Naming.{number_or_length}
use Rattle.link_classes.proofs.order.ClassOrder.number_or_end.Goals as goal

pub index-requires : goal.index-requires
index-requires c = omega (arith, c.requires.name, c.requires.order.knows.as_many)

pub returns : goal.returns
returns c = λ text there.
    let within : c.args.name.0 < length c.args.self.now.numbers.items = omega (arith, c.requires.name, c.requires.order.knows.as_many) in
    let was : slice_get c.args.self.now.numbers.items c.args.name.0 ≡ Some c.index.result.now =
    slice_get-get_or c.args.self.now.numbers.items c.args.name.0 c.index.result.now within ∙ ap Some (sym c.index.ensures) in
    let classes = seen_classes c.args.self.now.classes.items in
    let counted : length (seen_classes c.args.self.now.classes.items) ≡ c.len.result =
    length-map c.args.self.now.classes.items seen_class ∙ omega (arith, c.len.ensures, c.args.self.now.classes.ok.0) in
    let found = number_or_length classes text c.index.result.now (c.requires.order.knows.each c.args.name.0 text c.index.result.now there was) in
    subst (IsClassNumber classes text) (ap (unwrap_or c.index.result.now) counted ∙ sym c.unwrap_or.ensures) found
