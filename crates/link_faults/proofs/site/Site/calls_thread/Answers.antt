use Rattle.link_faults.proofs.Placed.{call_class}
use Rattle.link_faults.proofs.site.Site.calls_thread.Goals as goal

pub is_of_threads-requires-clause-within : goal.is_of_threads-requires-clause-within
is_of_threads-requires-clause-within c = call_class c.args.self.now c.requires c.in-Some.call c.in-Some.is
