use Rattle.std.proofs.Common.{◌<◌, Some, length, ◌∙◌, sym, ap, arith}
use Rattle.std.proofs.lemmas.Option.{slice_get-get_or}
use Rattle.lists.proofs.Places.{slice_get-below}
use Rattle.link_classes.proofs.Within.{name_number}
use Rattle.link_classes.proofs.order.ClassOrder.number.Goals as goal

pub index-requires : goal.index-requires
index-requires c =
    let there = name_number c.args.self.now.all.now.texts c.args.class.now c.name_id.result c.requires.class c.name_id.ensures in
    omega (arith, slice_get-below c.args.self.now.all.now.texts c.name_id.result.0 _ there, c.requires.order.knows.as_many)

pub returns : goal.returns
returns c =
    let there = name_number c.args.self.now.all.now.texts c.args.class.now c.name_id.result c.requires.class c.name_id.ensures in
    let within : c.name_id.result.0 < length c.args.self.now.numbers.items =
    omega (arith, slice_get-below c.args.self.now.all.now.texts c.name_id.result.0 _ there, c.requires.order.knows.as_many) in
    c.requires.order.knows.each c.name_id.result.0 _ c.index.result.now there
    (slice_get-get_or c.args.self.now.numbers.items c.name_id.result.0 c.index.result.now within ∙ ap Some (sym c.index.ensures))
