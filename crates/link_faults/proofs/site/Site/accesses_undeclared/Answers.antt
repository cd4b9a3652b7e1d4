use Rattle.link_faults.proofs.Placed.{access_class}
use Rattle.link_faults.proofs.site.Site.accesses_undeclared.Goals as goal

pub is_undeclared-requires-clause-within : goal.is_undeclared-requires-clause-within
is_undeclared-requires-clause-within c = access_class c.args.self.now c.requires c.in-Some.access c.access_of.result c.access_of.ensures c.in-Some.is
