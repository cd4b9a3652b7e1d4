use Rattle.std.proofs.Common.{◌<◌, [], Some, length, ◌∙◌, sym, ap, arith}
use Rattle.std.proofs.lemmas.Option.{slice_get-get_or}
use Rattle.link_rules.specs.Names.{text_of}
use Rattle.link_classes.proofs.order.ClassOrder.first.Goals as goal

pub index-requires : goal.index-requires
index-requires c = omega (arith, c.requires.name, c.requires.order.knows.as_many)

pub returns : goal.returns
returns c =
    let within : c.args.name.0 < length c.args.self.now.numbers.items = omega (arith, c.requires.name, c.requires.order.knows.as_many) in
    c.requires.order.knows.each c.args.name.0 (text_of c.args.self.now.all.now.texts c.args.name) c.index.result.now
    (slice_get-get_or c.args.self.now.all.now.texts c.args.name.0 [] c.requires.name)
    (slice_get-get_or c.args.self.now.numbers.items c.args.name.0 c.index.result.now within ∙ ap Some (sym c.index.ensures))
