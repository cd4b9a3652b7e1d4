use Rattle.link_faults.proofs.Placed.{call_class}
use Rattle.link_faults.proofs.site.Site.calls_undeclared.Goals as goal

pub is_undeclared-requires-clause-within : goal.is_undeclared-requires-clause-within
is_undeclared-requires-clause-within c = call_class c.args.self.now c.requires c.in-Some.call c.in-Some.is
