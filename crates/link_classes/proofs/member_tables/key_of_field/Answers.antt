use Rattle.std.proofs.Common.{subst}
use Rattle.link_classes.specs.Keyed.{IsFieldKeyIn, field_key_by}
use Rattle.link_classes.proofs.Known.{numbered_names, numbers_within}
use Rattle.link_classes.proofs.member_tables.key_of_field.Goals as goal

pub returns : goal.returns
returns c =
    let f = c.args.field.now in
    subst (λ names. IsFieldKeyIn c.args.all.now (field_key_by names f.decl.now.name f.decl.now.ty f.decl.now.is_static) c.field_key_in.result)
    (numbered_names c.args.all.now f.names.now f.ids.now c.requires.numbered)
    (c.field_key_in.ensures c.args.all.now (numbers_within c.args.all.now f.names.now f.ids.now c.requires.numbered))
