use Rattle.std.proofs.Common.{inl, refl}
use Rattle.cert_rows.proofs.works.has_lines.Goals as goal

pub first_object-requires : goal.first_object-requires
first_object-requires c = (c.args.view.now.linked.now, c.args.view.now.target, c.requires.ends, inl refl)
