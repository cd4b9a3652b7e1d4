use Rattle.std.proofs.Common.{refl}
use Rattle.spds_nodes.proofs.Named.{IsSiteClass-below}
use Rattle.spds_nodes.proofs.sites.class_has.Goals as goal

pub has_declared-requires : goal.has_declared-requires
has_declared-requires c = IsSiteClass-below c.args.linked.now c.args.site c.in-Some.class c.tell_form.ensures ((c.in-Some.ensures.is c.in-Some.class).0 refl)
