use Rattle.link_faults.proofs.Placed.{access_within}
use Rattle.link_faults.proofs.site.Site.accesses_no_field.Goals as goal

pub finds_no_field-requires-clause-within : goal.finds_no_field-requires-clause-within
finds_no_field-requires-clause-within c = access_within c.args.self.now c.requires c.in-Some.access c.access_of.result c.access_of.ensures c.in-Some.is
